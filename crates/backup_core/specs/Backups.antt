-- A backup: what is fixed of it by its command, and what changes. A hand job's dumps, cuts and
-- seals are called one by one; any other backup goes on by its tasks.
use Rattle.std.specs.Prelude.{ℕ, ◌+◌, Bool, true, false, List, [], ◌∷◌, Option, Some, None}
use Rattle.std.specs.Prelude.{unwrap_or, if◌then◌else◌}
use Rattle.fb_bytes.specs.Bytes.{Bytes}
use Rattle.fb_bytes.specs.declared.KeyRange.{KeyRange}
use Rattle.file_names.specs.declared.Name.{Name}
use Rattle.file_names.specs.declared.Name.TheVariants.{Range, Log}
use Rattle.file_names.specs.Spelling.{spelling}
use Rattle.manifests.specs.Grammar.{name_for}
use Rattle.snapshot_plan.specs.declared.Done.{Done}
use Rattle.snapshot_plan.specs.declared.JobSettings.{JobSettings}
use Rattle.snapshot_plan.specs.declared.Noted.{Noted}
use Rattle.snapshot_plan.specs.Noted.{Map, with_noted, without, manifest_of}
use Rattle.task_kinds.specs.declared.JobState.{JobState}
use Rattle.task_kinds.specs.declared.JobState.TheVariants.{Submitted, Running, Aborted}
use Rattle.task_kinds.specs.States.{has_ended}
use Rattle.database.specs.declared.JobLog.{JobLog}
use Rattle.backup_core.specs.declared.mode.Mode.{Mode}

-- what never changes of a backup
pub record Terms : Type 0 where
  pub number : ℕ
  pub mode : Mode
  pub ranges : List KeyRange
  -- what its tasks go by
  pub settings : JobSettings

-- what contracts see of a backup
pub record BackupJob : Type 0 where
  pub terms : Terms
  pub state : JobState
  -- its log has begun
  pub started : Bool
  -- it was told to end
  pub ending : Bool
  -- the version from which on it logs
  pub begin : ℕ
  -- the version from which on its log is kept
  pub erased : ℕ
  -- the first version that no log file of it has yet
  pub next : ℕ
  -- the version of the first dump of the present snapshot, or of its dispatch
  pub snapshot : ℕ
  -- the pieces noted for the present snapshot
  pub noted : List Noted
  -- the manifest of the present snapshot is done
  pub done : Bool
  -- the greatest version of the last snapshot whose manifest is done
  pub last : ℕ

-- what a hand job goes by: it has no tasks
abbrev pub no_settings : JobSettings
no_settings = record { shard = 0; span = 0; rest = 0 }

-- a job that logs from the version on and has dumped nothing
abbrev pub opened : ℕ → Mode → List KeyRange → ℕ → BackupJob
opened number mode ranges version = record {
  terms = record { number = number; mode = mode; ranges = ranges; settings = no_settings };
  state = Running;
  started = true;
  ending = false;
  begin = version;
  erased = version;
  next = version;
  snapshot = 0;
  noted = [];
  done = false;
  last = 0;
}

-- a job that waits for its first task, whose close begins its log
abbrev pub submitted : Terms → BackupJob
submitted terms = record {
  terms = terms;
  state = Submitted;
  started = false;
  ending = false;
  begin = 0;
  erased = 0;
  next = 0;
  snapshot = 0;
  noted = [];
  done = false;
  last = 0;
}

-- its ranges, and the pieces noted for the present snapshot
abbrev pub map_of : BackupJob → Map
map_of job = record { ranges = job.terms.ranges; noted = job.noted }

abbrev pub unless_ended : Bool → JobLog → Option JobLog
unless_ended ended log = if ended then None else Some log

-- what a job logs, where it hasn't ended: its ranges, from where it began
abbrev pub log_of : BackupJob → Option JobLog
log_of job =
    unless_ended (has_ended job.state)
    (record {
      job = job.terms.number;
      ranges = job.terms.ranges;
      begin = job.begin;
      erased = job.erased;
    })

-- what a job logs at present: nothing before its log has begun
abbrev pub job_log : BackupJob → Option JobLog
job_log job = if job.started then log_of job else None

-- the first where no piece is noted, else the second
abbrev pub begun_at : List Noted → ℕ → ℕ → ℕ
begun_at [] now begun = now
begun_at (one ∷ noted) now begun = begun

-- the number of the snapshot that a dump at this version belongs to: the version, where it is the
-- first
abbrev pub snapshot_at : BackupJob → ℕ → ℕ
snapshot_at job now = begun_at job.noted now job.snapshot

-- the name of a range file that is dumped at this version
abbrev pub range_name : BackupJob → ℕ → ℕ → ℕ → Name
range_name job now ticket block = Range (snapshot_at job now) now ticket block

-- the name of the log file from where the last one ended through this version
abbrev pub log_name : BackupJob → ℕ → ℕ → ℕ → Name
log_name job now ticket block = Log job.next (now + 1) ticket block

-- the name of the manifest of the present snapshot
abbrev pub manifest_name : BackupJob → ℕ → Name
manifest_name job ticket = name_for (manifest_of job.noted) ticket

-- the spelling of a name, empty where there is none
abbrev pub text_of : Name → Bytes
text_of name = unwrap_or (spelling name) []

-- the job once a piece was dumped at this version into this file
abbrev pub dumped : BackupJob → KeyRange → ℕ → Done → BackupJob
dumped job piece now file = record job {
  snapshot = snapshot_at job now;
  noted = with_noted (record { piece = piece; file = file }) job.noted;
}

-- the job once the piece that begins at the key is taken back, before which its snapshot had this
-- number
abbrev pub taken_back : BackupJob → Bytes → ℕ → BackupJob
taken_back job begin snapshot =
    record job { snapshot = snapshot; noted = without begin job.noted }

-- the job once its log files reach through this version
abbrev pub cut_to : BackupJob → ℕ → BackupJob
cut_to job now = record job { next = now + 1 }

-- the job once its snapshot is sealed: the next one begins with no piece
abbrev pub sealed : BackupJob → BackupJob
sealed job = record job { noted = [] }

-- the job once it is given up
abbrev pub aborted_job : BackupJob → BackupJob
aborted_job job = record job { state = Aborted }
