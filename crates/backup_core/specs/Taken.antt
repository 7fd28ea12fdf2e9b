-- What the take of a task keeps, and when a file can be made of it.
use Rattle.std.specs.Prelude.{◌≡◌, ℕ, ◌<◌, ◌≤◌, ◌^◌, true, List, length, Option, Some, None}
use Rattle.std.specs.List.{AllByRecursion}
use Rattle.fb_bytes.specs.Blocks.{is_block}
use Rattle.fb_bytes.specs.declared.KeyRange.{KeyRange}
use Rattle.block_frame.specs.Profiles.{key_limit_of}
use Rattle.mutations.specs.declared.Entry.{Entry}
use Rattle.mutations.specs.Clipping.{all_clipped}
use Rattle.mutations.specs.Histories.{IsRising, logged}
use Rattle.mutations.specs.Spelling.{mutations_spelling}
use Rattle.task_kinds.specs.Kinds.{takes_of}
use Rattle.task_kinds.specs.Tasks.{SeenTask}
use Rattle.task_kinds.specs.Works.{BackupWork, BackupStart, BackupDispatch, BackupRange}
use Rattle.task_kinds.specs.Works.{BackupManifest, BackupLogs, BackupLog, BackupErase}
use Rattle.task_kinds.specs.Works.{BackupFinish, Work, OfBackup, OfRestore, OfDr}
use Rattle.snapshot_plan.specs.Noted.{manifest_of, most_bytes}
use Rattle.database.specs.Commits.{Database, most_version}
use Rattle.database.specs.Dumps.{pairs_at, AreWithin}
use Rattle.database.specs.Logs.{log_of}
use Rattle.backup_core.specs.Backups.{BackupJob, job_log}
use Rattle.backup_core.specs.Facts.{View, JobFacts}
use Rattle.backup_core.specs.Kept.{Part, RangePart, LogPart, ManifestPart}
use Rattle.backup_core.specs.Made.{CanMake, HasName}
use Rattle.backup_core.specs.Tasks.{Load, IsLoad, HasTask, IsTaskOf}

-- ---- what a take keeps

-- The pairs of the piece at a version, what the job logged, or the manifest of what is noted. The
-- other kinds keep nothing.
abbrev pub taken : Database → ℕ → BackupJob → BackupWork → Option Part
taken db now job BackupStart = None
taken db now job BackupDispatch = None
taken db now job (BackupRange snapshot piece) =
    Some (RangePart snapshot now
    (record { range = piece; pairs = pairs_at db.block db.history now piece }))
taken db now job (BackupManifest snapshot) = Some (ManifestPart (manifest_of job.noted))
taken db now job BackupLogs = None
taken db now job (BackupLog begin end) =
    Some (LogPart begin end (logged db.history job.terms.ranges begin end))
taken db now job BackupErase = None
taken db now job BackupFinish = None

-- the same of what a task does
abbrev pub taken_for : Database → ℕ → BackupJob → Option Work → Option Part
taken_for db now job None = None
taken_for db now job (Some (OfBackup work)) = taken db now job work
taken_for db now job (Some (OfRestore work)) = None
taken_for db now job (Some (OfDr work)) = None

-- ---- when a task can be taken

-- the task is an open one of the job
pub record IsOpen (job : BackupJob) (now : ℕ) (task : SeenTask) : Type 0 where
  pub load : Load
  pub sums : IsLoad load
  pub facts : JobFacts job (record { now = now; load = load })
  pub work : BackupWork
  pub of_job : IsTaskOf job.terms.number work task
  pub has : HasTask load work

-- and its kind takes; the database logs for the job, and still has its newest version
pub record CanTake (db : Database) (now : ℕ) (job : BackupJob) (task : SeenTask) : Type 0 where
  pub is_open : IsOpen job now task
  pub takes : takes_of task.kind ≡ true
  pub log : log_of db.logs job.terms.number ≡ job_log job
  pub kept : db.oldest ≤ now

-- the bytes of a manifest's files fit its name
abbrev pub HasRoom : Part → Type 0
HasRoom (RangePart snapshot version body) = Unit {0}
HasRoom (LogPart begin end batches) = Unit {0}
HasRoom (ManifestPart manifest) = manifest.bytes ≤ most_bytes

-- ---- what a take keeps can be made a file

-- what a job logs of each entry from a version on has fewer than 2^32 bytes
abbrev pub AreLoggable : List KeyRange → ℕ → List Entry → Type 0
AreLoggable ranges begin history =
    AllByRecursion
    (λ entry. begin ≤ entry.version
    → length (mutations_spelling (all_clipped ranges entry.muts)) < 2 ^ 32)
    history

-- a piece whose ends are within the limit on keys, of a snapshot whose number fits a name
pub record FitsFile (block snapshot : ℕ) (piece : KeyRange) : Type 0 where
  pub number : snapshot < 2 ^ 63
  pub begin : length piece.begin ≤ key_limit_of block
  pub end : length piece.end ≤ key_limit_of block

-- so is the piece of a range task
abbrev pub WorkFits : ℕ → BackupWork → Type 0
WorkFits block BackupStart = Unit {0}
WorkFits block BackupDispatch = Unit {0}
WorkFits block (BackupRange snapshot piece) = FitsFile block snapshot piece
WorkFits block (BackupManifest snapshot) = Unit {0}
WorkFits block BackupLogs = Unit {0}
WorkFits block (BackupLog begin end) = Unit {0}
WorkFits block BackupErase = Unit {0}
WorkFits block BackupFinish = Unit {0}

-- a database within the limits of its block, whose entries the job can log
pub record IsWithin (db : Database) (job : BackupJob) : Type 0 where
  pub block : is_block db.block ≡ true
  pub rising : IsRising db.history
  pub limits : AreWithin db.block db.history
  pub loggable : AreLoggable job.terms.ranges job.begin db.history

-- an open task of a job, in a database within its limits
pub record IsTaking (db : Database) (job : BackupJob) (view : View) (work : BackupWork)
    : Type 0 where
  pub facts : JobFacts job view
  pub sums : IsLoad view.load
  pub has : HasTask view.load work
  pub within : IsWithin db job
  pub fits : WorkFits db.block work

pub record MadeLaw : Type 0 where
  -- what is taken for an open task meets its writer's condition
  pub can : (db : Database) (job : BackupJob) (view : View) (work : BackupWork) (part : Part)
      → IsTaking db job view work → taken db view.now job work ≡ Some part → CanMake db.block part
  -- and its file has a name
  pub named : (db : Database) (job : BackupJob) (view : View) (work : BackupWork) (part : Part)
      (ticket : ℕ) → IsTaking db job view work → taken db view.now job work ≡ Some part
      → HasRoom part → view.now ≤ most_version → ticket ≤ most_version
      → HasName db.block ticket part
