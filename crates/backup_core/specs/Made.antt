-- The file that is made of what a take keeps: its name, its bytes, and what they say.
use Rattle.std.specs.Prelude.{◌≡◌, ℕ, ◌<◌, ◌^◌, true, is_some}
use Rattle.fb_bytes.specs.Bytes.{Bytes}
use Rattle.fb_bytes.specs.Pairs.{AreRising}
use Rattle.file_names.specs.declared.Name.{Name}
use Rattle.file_names.specs.declared.Name.TheVariants.{Range, Log}
use Rattle.file_names.specs.Spelling.{spelling}
use Rattle.range_files.specs.declared.Chunk.{Chunk}
use Rattle.range_files.specs.Writing.{range_text}
use Rattle.range_files.specs.Writing as ranges
use Rattle.log_files.specs.Writing.{log_text}
use Rattle.log_files.specs.Writing as logs
use Rattle.manifests.specs.Grammar.{IsWhole, name_for, manifest_text}
use Rattle.container_view.specs.Contents.{file_grammars}
use Rattle.container_view.specs.Files as files
use Rattle.container_view.specs.Folder.{RangeContent}
use Rattle.backup_core.specs.declared.part.FilePart.{FilePart}
use Rattle.backup_core.specs.declared.part.FilePart.TheVariants as parts
use Rattle.backup_core.specs.Backups.{text_of}
use Rattle.backup_core.specs.Kept.{Part, RangePart, LogPart, ManifestPart}
use Rattle.backup_core.specs.Kept.{range_file, log_file, manifest_file}

-- what a chunk has: a range of keys, and the pairs in it
abbrev pub body_of : Chunk → RangeContent
body_of chunk =
    record { range = record { begin = chunk.begin; end = chunk.end }; pairs = chunk.pairs }

-- what is meant by a part that code keeps
abbrev pub part_in : FilePart → Part
part_in (parts.Range snapshot chunk) = RangePart snapshot chunk.version (body_of chunk)
part_in (parts.Log chunk) = LogPart chunk.begin chunk.end chunk.batches
part_in (parts.Manifest manifest) = ManifestPart manifest

-- the name of the file of a part with a ticket, in blocks of a size
abbrev pub part_name : ℕ → ℕ → Part → Name
part_name block ticket (RangePart snapshot version body) = Range snapshot version ticket block
part_name block ticket (LogPart begin end batches) = Log begin end ticket block
part_name block ticket (ManifestPart manifest) = name_for manifest ticket

-- that name can be spelled
abbrev pub HasName : ℕ → ℕ → Part → Type 0
HasName block ticket part = is_some (spelling (part_name block ticket part)) ≡ true

-- what the part's writer writes
abbrev pub part_bytes : ℕ → Part → Bytes
part_bytes block (RangePart snapshot version body) =
    range_text block body.range.begin body.range.end body.pairs
part_bytes block (LogPart begin end batches) = log_text block batches
part_bytes block (ManifestPart manifest) = manifest_text manifest

-- the part meets its writer's condition
abbrev pub CanMake : ℕ → Part → Type 0
CanMake block (RangePart snapshot version body) =
    ranges.IsWritable block body.range.begin body.range.end body.pairs
CanMake block (LogPart begin end batches) = logs.IsWritable block begin end batches
CanMake block (ManifestPart manifest) = IsWhole manifest

-- what each part that code keeps has: its pairs are in order, its numbers have 64 bits
abbrev pub IsTyped : Part → Type 0
IsTyped (RangePart snapshot version body) = AreRising body.pairs
IsTyped (LogPart begin end batches) = end < 2 ^ 64
IsTyped (ManifestPart manifest) = manifest.bytes < 2 ^ 64

-- what contracts see of a file that was made
pub record Made : Type 0 where
  pub block : ℕ
  pub ticket : ℕ
  pub part : Part
  pub bytes : Bytes

-- the bytes are those that the part's writer writes
pub record IsMade (made : Made) : Type 0 where
  pub can : CanMake made.block made.part
  pub typed : IsTyped made.part
  pub written : made.bytes ≡ part_bytes made.block made.part

-- the file that is made of a part with a ticket
abbrev pub made_of : ℕ → ℕ → Part → Made
made_of block ticket part =
    record { block = block; ticket = ticket; part = part; bytes = part_bytes block part }

-- ---- what it says

-- under its name the bytes are read as the file of the part
abbrev pub IsReadAs : ℕ → ℕ → Bytes → Part → Type 0
IsReadAs block ticket bytes (RangePart snapshot version body) =
    files.range_file file_grammars (text_of (Range snapshot version ticket block)) bytes version
    block ≡ range_file block ticket snapshot version body
IsReadAs block ticket bytes (LogPart begin end batches) =
    files.log_file file_grammars (text_of (Log begin end ticket block)) bytes begin end block
    ≡ log_file block ticket begin end batches
IsReadAs block ticket bytes (ManifestPart manifest) =
    files.manifest_file file_grammars (text_of (name_for manifest ticket)) bytes
    (name_for manifest ticket) manifest.begin manifest.end ≡ manifest_file ticket manifest

-- a file that was made of a part is read as the file of that part
abbrev pub MadeReadsLaw : Type 0
MadeReadsLaw = (made : Made) → IsMade made
    → IsReadAs made.block made.ticket made.bytes made.part
