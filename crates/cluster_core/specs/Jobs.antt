-- The jobs of a run, and how they are found.
use Rattle.std.specs.Prelude.{ℕ, ◌+◌, Bool, true, false, List, [], ◌∷◌, ◌++◌, Option, Some}
use Rattle.std.specs.Prelude.{None, if◌then◌else◌}
use Rattle.fb_bytes.specs.Bytes.{Bytes, is_same}
use Rattle.fb_bytes.specs.declared.KeyRange.{KeyRange}
use Rattle.mutations.specs.Transactions.{◌or_else◌}
use Rattle.task_kinds.specs.declared.JobState.{JobState}
use Rattle.workload_text.specs.declared.Side.{Side}
use Rattle.workload_text.specs.declared.Side.TheVariants.{Src, Dst}
use Rattle.database.specs.declared.JobLog.{JobLog}
use Rattle.backup_core.specs.Backups.{log_of}
use Rattle.backup_core.specs.declared.Mode.{Mode}
use Rattle.backup_core.specs.declared.Mode.TheVariants as modes
use Rattle.cluster_core.specs.Backups.{FoundBackup}
pub use Rattle.cluster_core.specs.declared.job.Job.{Job}
use Rattle.cluster_core.specs.declared.job.Job.TheVariants as types
use Rattle.cluster_core.specs.declared.job_kind.JobKind.{JobKind}
use Rattle.cluster_core.specs.declared.job_kind.JobKind.TheVariants as kinds

-- What a job is, fixed by its command. A DR has no container, and a restore no ranges of its own.
pub record Terms : Type 0 where
  pub number : ℕ
  pub tag : Bytes
  pub kind : JobKind
  pub side : Side
  pub container : Option Bytes
  pub ranges : Option (List KeyRange)

-- the kind of a backup that goes on so
abbrev pub kind_of : Mode → JobKind
kind_of modes.Hand = kinds.Hand
kind_of modes.Once = kinds.Backup
kind_of modes.Continuous = kinds.Backup

-- what a job is, by its type
abbrev pub terms_of : Job → Terms
terms_of (types.Backup backup) =
    record {
      number = backup.job.terms.number;
      tag = backup.tag;
      kind = kind_of backup.job.terms.mode;
      side = backup.side;
      container = Some backup.container;
      ranges = Some backup.job.terms.ranges;
    }

-- how far a job has come
abbrev pub state_of_job : Job → JobState
state_of_job (types.Backup backup) = backup.job.state

-- the container that a job of this kind starts, of the one that its command names
abbrev pub started_as : JobKind → Option Bytes → Option Bytes
started_as kinds.Hand container = container
started_as kinds.Backup container = container
started_as kinds.Restore container = None
started_as kinds.Dr container = None

-- the container that an accepted command started for the job: the one that it writes to
abbrev pub started : Terms → Option Bytes
started terms = started_as terms.kind terms.container

-- a job and its place among the jobs, from 0
pub record Found : Type 0 where
  pub place : ℕ
  pub job : Job

-- what is done with the job at a place, where it is a backup
abbrev pub with_backup : {X : Type 0} → (FoundBackup → X) → ℕ → Job → X
with_backup f place (types.Backup backup) = f (record { place = place; backup = backup })

-- what a command of backups does with the job that was found
abbrev pub on_backup : {X : Type 0} → (FoundBackup → X) → Found → X
on_backup f found = with_backup f found.place found.job

-- the newest job with the tag, the places counted on from a number
abbrev pub newest_from : ℕ → Bytes → List Job → Option Found
newest_from place tag [] = None
newest_from place tag (job ∷ jobs) =
    newest_from (place + 1) tag jobs or_else
    (if is_same (terms_of job).tag tag then Some (record { place = place; job = job }) else None)

abbrev pub newest : Bytes → List Job → Option Found
newest tag jobs = newest_from 0 tag jobs

-- this is the container
abbrev pub is_container : Bytes → Option Bytes → Bool
is_container container None = false
is_container container (Some other) = is_same other container

-- the first job that was started in the container
abbrev pub started_in : Bytes → List Job → Option Job
started_in container [] = None
started_in container (job ∷ jobs) =
    if is_container container (started (terms_of job)) then Some job else started_in container jobs

abbrev pub is_on : Side → Side → Bool
is_on Src Src = true
is_on Src Dst = false
is_on Dst Src = false
is_on Dst Dst = true

-- what a job logs on a side, where it logs there: it reads that database and hasn't ended
abbrev pub log_on : Side → Job → Option JobLog
log_on side (types.Backup backup) = if is_on side backup.side then log_of backup.job else None

-- the ranges of a job of a side, whether it has ended or not
abbrev pub range_on : Side → Job → List (List KeyRange)
range_on side (types.Backup backup) =
    if is_on side backup.side then backup.job.terms.ranges ∷ [] else []

abbrev pub ranges_on : Side → List Job → List (List KeyRange)
ranges_on side [] = []
ranges_on side (job ∷ jobs) = range_on side job ++ ranges_on side jobs

-- a log in front, where there is one
abbrev pub with_front : Option JobLog → List JobLog → List JobLog
with_front None logs = logs
with_front (Some log) logs = log ∷ logs

-- the logs of a side's database, in the order of the jobs
abbrev pub logs_of : Side → List Job → List JobLog
logs_of side [] = []
logs_of side (job ∷ jobs) = with_front (log_on side job) (logs_of side jobs)

-- what a report tells of a job
pub record JobTold : Type 0 where
  pub terms : Terms
  pub state : JobState

abbrev pub job_told : Job → JobTold
job_told job = record { terms = terms_of job; state = state_of_job job }
