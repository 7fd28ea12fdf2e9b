-- The file that is made of a part says what the part has.
use Rattle.std.proofs.Common.{◌≡◌, ℕ, List, Option, ap, ◌∙◌}
use Rattle.fb_bytes.specs.Bytes.{Bytes}
use Rattle.mutations.specs.declared.Batch.{Batch}
use Rattle.file_names.specs.declared.Name.TheVariants.{Range, Log}
use Rattle.manifests.specs.Grammar.{name_for}
use Rattle.manifests.proofs.Printed.{written_is_manifest}
use Rattle.container_view.specs.Contents.{ContentsLaw, file_grammars}
use Rattle.container_view.specs.Folder.{RangeContent, RangeFile, LogFile, ManifestFile}
use Rattle.backup_core.specs.Backups.{text_of}
use Rattle.backup_core.specs.Kept.{Part, RangePart, LogPart, ManifestPart}
use Rattle.backup_core.specs.Made.{CanMake, IsTyped, part_bytes, IsReadAs, MadeReadsLaw}

-- ---- the files of a content

abbrev as_range : Bytes → ℕ → ℕ → Option RangeContent → RangeFile
as_range name version block content = record { name = name; version = version; block = block; content = content }

abbrev as_log : Bytes → ℕ → ℕ → ℕ → Option (List Batch) → LogFile
as_log name begin end block content = record { name = name; begin = begin; end = end; block = block; content = content }

abbrev as_manifest : Bytes → ℕ → ℕ → Option (List Bytes) → ManifestFile
as_manifest name begin end content = record { name = name; begin = begin; end = end; content = content }

reads : (contents : ContentsLaw) (block ticket : ℕ) (bytes : Bytes) (part : Part) → CanMake block part → IsTyped part → bytes ≡ part_bytes block part → IsReadAs block ticket bytes part
reads contents block ticket bytes (RangePart snapshot version body) can typed written =
    ap (as_range (text_of (Range snapshot version ticket block)) version block)
    (ap (file_grammars.range block) written ∙ contents.range block body.range.begin body.range.end body.pairs can typed)
reads contents block ticket bytes (LogPart begin end batches) can typed written =
    ap (as_log (text_of (Log begin end ticket block)) begin end block)
    (ap (file_grammars.log begin end block) written ∙ contents.log begin end block batches typed can)
reads contents block ticket bytes (ManifestPart manifest) can typed written =
    ap (as_manifest (text_of (name_for manifest ticket)) manifest.begin manifest.end)
    (ap (file_grammars.manifest (name_for manifest ticket)) written ∙ contents.manifest (name_for manifest ticket) _ manifest (written_is_manifest manifest ticket can typed))

pub made_reads_law : ContentsLaw → MadeReadsLaw
made_reads_law contents made is = reads contents made.block made.ticket made.bytes made.part is.can is.typed is.written
