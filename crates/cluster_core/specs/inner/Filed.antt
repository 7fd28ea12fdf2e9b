-- How a job changes by a file of it.
use Rattle.std.specs.Prelude.{◌≡◌, ℕ, ◌+◌, ◌<◌, ◌^◌, false, List, length, Some, slice_get}
use Rattle.std.specs.Prelude.{slice_set}
use Rattle.fb_bytes.specs.declared.KeyRange.{KeyRange}
use Rattle.fb_bytes.specs.Keys.{is_backwards}
use Rattle.backup_core.specs.Backups as backups
use Rattle.backup_core.specs.Backups.{dumped, cut_to, sealed}
use Rattle.workload_text.specs.declared.Settings.{Settings}
use Rattle.cluster_core.specs.declared.change.Change.{Change}
use Rattle.cluster_core.specs.declared.change.Change.TheVariants.{Dump, Cut, Seal}
use Rattle.cluster_core.specs.declared.job.Job.{Job}
use Rattle.cluster_core.specs.declared.job.Job.TheVariants as types
use Rattle.cluster_core.specs.Backups.{Backup}
use Rattle.cluster_core.specs.State.{State}
use Rattle.cluster_core.specs.commands.Dump.{dump_name, dump_bytes}

-- the job once the file is put
abbrev pub changed_backup : Change → Backup → Backup
changed_backup (Dump piece now file) backup =
    record backup { job = dumped backup.job piece now file }
changed_backup (Cut now) backup = record backup { job = cut_to backup.job now }
changed_backup Seal backup = record backup { job = sealed backup.job }

abbrev pub changed : Change → Job → Job
changed change (types.Backup backup) = types.Backup (changed_backup change backup)

-- the piece isn't backwards, and a version follows
abbrev pub CanChange : Change → Type 0
CanChange (Dump piece now file) = is_backwards piece ≡ false
CanChange (Cut now) = now + 1 < 2 ^ 64
CanChange Seal = Unit {0}

-- what is made of a change before the file is put: a dump, for which memory may be short
abbrev pub backup_ahead : Change → Backup → Backup
backup_ahead (Dump piece now file) backup =
    record backup { job = dumped backup.job piece now file }
backup_ahead (Cut now) backup = backup
backup_ahead Seal backup = backup

abbrev pub ahead : Change → Job → Job
ahead change (types.Backup backup) = types.Backup (backup_ahead change backup)

-- the rest of it
abbrev pub settled_backup : Change → Backup → Backup
settled_backup (Dump piece now file) backup = backup
settled_backup (Cut now) backup = record backup { job = cut_to backup.job now }
settled_backup Seal backup = record backup { job = sealed backup.job }

abbrev pub settled : Change → Job → Job
settled change (types.Backup backup) = types.Backup (settled_backup change backup)

-- what was made ahead is taken back, before which the snapshot had this number
abbrev pub backup_back : Change → ℕ → Backup → Backup
backup_back (Dump piece now file) snapshot backup =
    record backup { job = backups.taken_back backup.job piece.begin snapshot }
backup_back (Cut now) snapshot backup = backup
backup_back Seal snapshot backup = backup

abbrev pub taken_back : Change → ℕ → Job → Job
taken_back change snapshot (types.Backup backup) =
    types.Backup (backup_back change snapshot backup)

-- the number of a backup's present snapshot
abbrev pub snapshot_of : Job → ℕ
snapshot_of (types.Backup backup) = backup.job.snapshot

-- The job at a place is ahead by a change, and its snapshot had this number before.
pub record IsAhead (old : List Job) (place : ℕ) (change : Change) (snapshot : ℕ)
    (new : List Job) : Type 0 where
  pub job : Job
  pub at : slice_get old place ≡ Some job
  pub before : snapshot ≡ snapshot_of job
  pub set : new ≡ slice_set old place (ahead change job)

-- how a job changes by the range file of a piece
abbrev pub dump_change : Settings → State → Backup → KeyRange → Change
dump_change s w backup piece =
    Dump piece w.time
    (record {
      name = dump_name s w backup;
      version = w.time;
      bytes = length (dump_bytes s w backup piece);
    })
