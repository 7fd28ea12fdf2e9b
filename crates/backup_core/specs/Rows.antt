-- What the close of each kind of task does to its backup, and which tasks it adds.
use Rattle.std.specs.Prelude.{ℕ, zero, suc, ◌+◌, Bool, true, false, ◌&&◌, ◌||◌, min}
use Rattle.std.specs.Prelude.{List, [], ◌∷◌, Option, Some, None, nat_lt, ◌==◌, if◌then◌else◌}
use Rattle.fb_bytes.specs.declared.KeyRange.{KeyRange}
use Rattle.task_kinds.specs.declared.JobState.{JobState}
use Rattle.task_kinds.specs.declared.JobState.TheVariants.{Running, RunningDifferential, Completed}
use Rattle.task_kinds.specs.Works.{BackupWork, BackupStart, BackupDispatch, BackupRange}
use Rattle.task_kinds.specs.Works.{BackupManifest, BackupLogs, BackupLog, BackupErase}
use Rattle.task_kinds.specs.Works.{BackupFinish}
use Rattle.snapshot_plan.specs.declared.Done.{Done}
use Rattle.snapshot_plan.specs.Noted.{with_noted, manifest_of}
use Rattle.backup_core.specs.declared.mode.Mode.{Mode}
use Rattle.backup_core.specs.declared.mode.Mode.TheVariants.{Hand, Once, Continuous}
use Rattle.backup_core.specs.Backups.{BackupJob}
use Rattle.backup_core.specs.Counts.{ranges, logs, logs_from}
use Rattle.backup_core.specs.Tasks.{Load, Adding, at_once, asleep}

-- what a close reads beside its job
pub record Scene : Type 0 where
  -- the newest version, and the one that a step would take, where one is left
  pub now : ℕ
  pub version : Option ℕ
  -- the pieces that the job's ranges are cut into now
  pub pieces : List KeyRange
  -- the sums over the job's other open tasks
  pub others : Load

-- what a close leaves: the newest version, the job, and the tasks that it adds
pub record Row : Type 0 where
  pub now : ℕ
  pub job : BackupJob
  pub adds : List Adding

-- ---- what a job waits for

-- it ends after one snapshot
abbrev pub is_once : Mode → Bool
is_once Hand = false
is_once Once = true
is_once Continuous = false

abbrev pub is_ending : BackupJob → Bool
is_ending job = job.ending || is_once job.terms.mode

-- its snapshot is done, and its log dispatches have passed the snapshot's greatest version
abbrev pub is_past : BackupJob → Bool
is_past job = job.done && nat_lt job.last job.next

-- and no open log task begins at that version or below it
abbrev pub has_caught_up : BackupJob → Load → Bool
has_caught_up job open_ = is_past job && (open_ (logs_from job.last) == 0)

-- A continuous job that isn't told to end is running-differential once it has caught up.
abbrev pub state_after : Mode → Bool → Bool → JobState → JobState
state_after Continuous false true state = RunningDifferential
state_after Continuous false false state = state
state_after Continuous true caught_up state = state
state_after Hand ending caught_up state = state
state_after Once ending caught_up state = state

abbrev pub settled : Load → BackupJob → BackupJob
settled open_ job =
    record job {
      state = state_after job.terms.mode job.ending (has_caught_up job open_) job.state;
    }

-- ---- one row for each kind

-- it begins its log at the version that was taken
abbrev pub begun : ℕ → BackupJob → BackupJob
begun version job =
    record job {
      state = Running;
      started = true;
      begin = version;
      erased = version;
      next = version;
    }

abbrev pub start_row : ℕ → BackupJob → Row
start_row version job =
    record {
      now = version;
      job = begun version job;
      adds = at_once BackupDispatch ∷ at_once BackupLogs ∷ [];
    }

-- a new snapshot begins with no piece
abbrev pub dispatched : ℕ → BackupJob → BackupJob
dispatched now job = record job { snapshot = now; noted = []; done = false }

-- a task for each piece, in key order
abbrev pub range_tasks : ℕ → List KeyRange → List Adding
range_tasks snapshot [] = []
range_tasks snapshot (piece ∷ pieces) =
    at_once (BackupRange snapshot piece) ∷ range_tasks snapshot pieces

abbrev pub dispatch_row : Scene → BackupJob → Row
dispatch_row scene job =
    record {
      now = scene.now;
      job = dispatched scene.now job;
      adds = range_tasks scene.now scene.pieces;
    }

-- the file of a piece is noted
abbrev pub noting : KeyRange → Done → BackupJob → BackupJob
noting piece file job =
    record job { noted = with_noted (record { piece = piece; file = file }) job.noted }

-- after the last piece comes the manifest
abbrev pub if_last : Bool → BackupWork → List Adding
if_last last work = if last then at_once work ∷ [] else []

abbrev pub range_row : Scene → ℕ → KeyRange → Done → BackupJob → Row
range_row scene snapshot piece file job =
    record {
      now = scene.now;
      job = noting piece file job;
      adds = if_last (scene.others ranges == 0) (BackupManifest snapshot);
    }

-- the snapshot is done, and its greatest version is known
abbrev pub sealed_to : ℕ → BackupJob → BackupJob
sealed_to last job = record job { done = true; last = last }

abbrev pub manifest_row : Scene → BackupJob → Row
manifest_row scene job =
    record {
      now = scene.now;
      job = settled scene.others (sealed_to (manifest_of job.noted).end job);
      adds = [];
    }

-- A log dispatch makes this many log tasks at most.
abbrev pub most_logs : ℕ
most_logs = 4

-- log tasks of at most so many versions each, one behind the other, and where the last one ends
abbrev pub log_tasks : ℕ → ℕ → ℕ → ℕ → List Adding
log_tasks zero span from to = []
log_tasks (suc most) span from to =
    if nat_lt from to
    then at_once (BackupLog from (min (from + span) to))
    ∷ log_tasks most span (min (from + span) to) to
    else []

abbrev pub logs_end : ℕ → ℕ → ℕ → ℕ → ℕ
logs_end zero span from to = from
logs_end (suc most) span from to =
    if nat_lt from to then logs_end most span (min (from + span) to) to else from

abbrev pub logging_to : ℕ → BackupJob → BackupJob
logging_to next job = record job { next = next }

-- An ending job that is past its snapshot finishes. Where nothing new is to be logged the dispatch
-- sleeps, and else it cuts what is new into log tasks.
abbrev pub logs_row : Scene → BackupJob → Row
logs_row scene job =
    if is_ending job && is_past job
    then record { now = scene.now; job = job; adds = at_once BackupFinish ∷ [] }
    else if nat_lt scene.now job.next
    then record {
      now = scene.now;
      job = job;
      adds = asleep (scene.now + job.terms.settings.rest) BackupLogs ∷ [];
    }
    else record {
      now = scene.now;
      job = logging_to (logs_end most_logs job.terms.settings.span job.next (scene.now + 1)) job;
      adds = log_tasks most_logs job.terms.settings.span job.next (scene.now + 1);
    }

-- after the last log task of the dispatch comes the erase
abbrev pub log_row : Scene → BackupJob → Row
log_row scene job =
    record {
      now = scene.now;
      job = settled scene.others job;
      adds = if_last (scene.others logs == 0) BackupErase;
    }

-- what its log files have is erased from its log
abbrev pub erased_job : BackupJob → BackupJob
erased_job job = record job { erased = job.next }

-- at once where the job is to end after its snapshot, which is done
abbrev pub next_logs : Bool → ℕ → Adding
next_logs awake until = if awake then at_once BackupLogs else asleep until BackupLogs

abbrev pub erase_row : Scene → BackupJob → Row
erase_row scene job =
    record {
      now = scene.now;
      job = erased_job job;
      adds = next_logs (is_ending job && job.done) (scene.now + job.terms.settings.rest) ∷ [];
    }

abbrev pub finished : BackupJob → BackupJob
finished job = record job { state = Completed }

abbrev pub finish_row : Scene → BackupJob → Row
finish_row scene job = record { now = scene.now; job = finished job; adds = [] }

-- ---- all together

-- a start needs a version, and the close of a piece its file
abbrev pub start_if : BackupJob → Option ℕ → Option Row
start_if job None = None
start_if job (Some version) = Some (start_row version job)

abbrev pub range_if : Scene → ℕ → KeyRange → BackupJob → Option Done → Option Row
range_if scene snapshot piece job None = None
range_if scene snapshot piece job (Some file) = Some (range_row scene snapshot piece file job)

-- What the close of a task leaves, with the file that was placed where it is a piece's. None where
-- no version is left, or that file isn't there.
abbrev pub row_of : Scene → BackupWork → Option Done → BackupJob → Option Row
row_of scene BackupStart file job = start_if job scene.version
row_of scene BackupDispatch file job = Some (dispatch_row scene job)
row_of scene (BackupRange snapshot piece) file job = range_if scene snapshot piece job file
row_of scene (BackupManifest snapshot) file job = Some (manifest_row scene job)
row_of scene BackupLogs file job = Some (logs_row scene job)
row_of scene (BackupLog begin end) file job = Some (log_row scene job)
row_of scene BackupErase file job = Some (erase_row scene job)
row_of scene BackupFinish file job = Some (finish_row scene job)
