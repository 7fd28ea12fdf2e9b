-- What the take of a backup's task keeps, and the file that it makes.
use Rattle.std.specs.Prelude.{◌≡◌, ℕ, ◌≤◌, Bool, true, false, List, Some}
use Rattle.fb_bytes.specs.Keys.{is_backwards}
use Rattle.fb_bytes.specs.Options.{IsIn}
use Rattle.file_names.specs.declared.Name.TheVariants.{Range, Log}
use Rattle.mutations.specs.declared.Batch.{Batch}
use Rattle.manifests.specs.declared.Manifest.{Manifest}
use Rattle.manifests.specs.Grammar.{name_for}
use Rattle.task_kinds.specs.Works.{BackupWork, BackupRange, BackupManifest, BackupLog}
use Rattle.snapshot_plan.specs.declared.Done.{Done}
use Rattle.container_view.specs.Folder.{RangeContent, RangeFile, LogFile, ManifestFile, Folder}
use Rattle.container_view.specs.Meaning.{piece_named}
use Rattle.container_view.specs.Law.{Source, IsHonestRange, IsHonestLog, IsHonestManifest}
use Rattle.backup_core.specs.Backups.{text_of}

-- What a take keeps: a piece of the keys at a version, what was logged from one version to another,
-- or the manifest of what is noted. `snapshot` is the version of the dispatch.
pub data Part : Type 0 where
  RangePart : (snapshot version : ℕ) (body : RangeContent) → Part
  LogPart : (begin end : ℕ) (batches : List Batch) → Part
  ManifestPart : (manifest : Manifest) → Part

-- what an agent keeps: a part, the ticket that was drawn for it, and whether its file was placed
pub record Kept : Type 0 where
  pub ticket : ℕ
  pub part : Part
  pub placed : Bool

-- the file of a part with a ticket, in blocks of a size
abbrev pub range_file : ℕ → ℕ → ℕ → ℕ → RangeContent → RangeFile
range_file block ticket snapshot version body =
    record {
      name = text_of (Range snapshot version ticket block);
      version = version;
      block = block;
      content = Some body;
    }

-- what is noted of it, with the number of its bytes
abbrev pub done_of : ℕ → ℕ → ℕ → ℕ → ℕ → Done
done_of block ticket snapshot version bytes =
    record {
      name = text_of (Range snapshot version ticket block);
      version = version;
      bytes = bytes;
    }

abbrev pub log_file : ℕ → ℕ → ℕ → ℕ → List Batch → LogFile
log_file block ticket begin end batches =
    record {
      name = text_of (Log begin end ticket block);
      begin = begin;
      end = end;
      block = block;
      content = Some batches;
    }

abbrev pub manifest_file : ℕ → Manifest → ManifestFile
manifest_file ticket manifest =
    record {
      name = text_of (name_for manifest ticket);
      begin = manifest.begin;
      end = manifest.end;
      content = Some manifest.files;
    }

-- A range part is its task's piece, and its file is honest. A file of its name is this file, and
-- once placed it is there, unless an expire may have deleted it.
pub record RangeKept (source : Source) (folder : Folder) (work : BackupWork) (kept : Kept)
    (snapshot version : ℕ) (body : RangeContent) : Type 0 where
  pub of_task : work ≡ BackupRange snapshot body.range
  pub proper : is_backwards body.range ≡ false
  pub honest : IsHonestRange source (range_file source.block kept.ticket snapshot version body)
  pub same : (file : RangeFile) → IsIn file folder.ranges
      → file.name ≡ text_of (Range snapshot version kept.ticket source.block)
      → file ≡ range_file source.block kept.ticket snapshot version body
  pub there : kept.placed ≡ true → folder.unreliable ≤ version
      → piece_named folder.ranges (text_of (Range snapshot version kept.ticket source.block))
      ≡ Some (record { version = version; range = body.range; pairs = body.pairs })

-- A log part is its task's span, and its file is honest.
pub record LogKept (source : Source) (work : BackupWork) (kept : Kept) (begin end : ℕ)
    (batches : List Batch) : Type 0 where
  pub of_task : work ≡ BackupLog begin end
  pub honest : IsHonestLog source (log_file source.block kept.ticket begin end batches)

-- A manifest is honest, unless an expire may have deleted a file of it.
pub record ManifestKept (source : Source) (folder : Folder) (work : BackupWork) (kept : Kept)
    (manifest : Manifest) : Type 0 where
  pub snapshot : ℕ
  pub of_task : work ≡ BackupManifest snapshot
  pub honest : folder.unreliable ≤ manifest.begin
      → IsHonestManifest source folder.ranges (manifest_file kept.ticket manifest)

abbrev pub PartFacts : Source → Folder → BackupWork → Kept → Part → Type 0
PartFacts source folder work kept (RangePart snapshot version body) =
    RangeKept source folder work kept snapshot version body
PartFacts source folder work kept (LogPart begin end batches) =
    LogKept source work kept begin end batches
PartFacts source folder work kept (ManifestPart manifest) =
    ManifestKept source folder work kept manifest

-- what is kept of what an agent keeps for a backup's task
pub record KeptFacts (source : Source) (folder : Folder) (work : BackupWork) (kept : Kept)
    : Type 0 where
  pub part : PartFacts source folder work kept kept.part
