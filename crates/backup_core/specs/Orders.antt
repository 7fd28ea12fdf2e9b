-- What the operator's orders do to a backup, and why they are refused.
use Rattle.std.specs.Prelude.{Bool, true, false, List, [], ◌∷◌, Option, Some, None}
use Rattle.std.specs.Prelude.{if◌then◌else◌}
use Rattle.task_kinds.specs.declared.JobState.{JobState}
use Rattle.task_kinds.specs.declared.JobState.TheVariants.{Submitted, Running, RunningDifferential}
use Rattle.task_kinds.specs.declared.JobState.TheVariants.{Completed, Aborted, Failed}
use Rattle.task_kinds.specs.States.{has_ended}
use Rattle.task_kinds.specs.Works.{BackupStart, BackupDispatch}
use Rattle.backup_core.specs.declared.mode.Mode.{Mode}
use Rattle.backup_core.specs.declared.mode.Mode.TheVariants.{Hand, Once, Continuous}
use Rattle.backup_core.specs.Backups.{Terms, BackupJob, submitted}
use Rattle.backup_core.specs.Tasks.{Adding, at_once}

-- why an order isn't carried out
pub data Refusal : Type 0 where
  -- the order isn't one for such a job
  WrongKind : Refusal
  -- nor for one that has come this far
  WrongState : (state : JobState) → Refusal

-- a job and the tasks that are added for it
pub record Ordered : Type 0 where
  pub job : BackupJob
  pub adds : List Adding

-- ---- backup

-- A backup that isn't made by hand begins with its start task.
abbrev pub submits : Terms → Ordered
submits terms = record { job = submitted terms; adds = at_once BackupStart ∷ [] }

-- ---- of continuous backups alone

abbrev pub is_continuous : Mode → Bool
is_continuous Hand = false
is_continuous Once = false
is_continuous Continuous = true

abbrev pub wrong_if : Bool → JobState → Option Refusal
wrong_if wrong state = if wrong then Some (WrongState state) else None

-- the refusal of an order of continuous backups, which is of the wrong state where a test says so
abbrev pub continuous_refusal : BackupJob → Bool → Option Refusal
continuous_refusal job wrong =
    if is_continuous job.terms.mode then wrong_if wrong job.state else Some WrongKind

-- ---- snapshot

abbrev pub is_differential : JobState → Bool
is_differential Submitted = false
is_differential Running = false
is_differential RunningDifferential = true
is_differential Completed = false
is_differential Aborted = false
is_differential Failed = false

-- A snapshot may be ordered of a job that is running-differential.
abbrev pub snapshot_refusal : BackupJob → Option Refusal
snapshot_refusal job =
    continuous_refusal job (if is_differential job.state then false else true)

-- it is to take one more snapshot
abbrev pub resumed : BackupJob → BackupJob
resumed job = record job { state = Running; done = false }

abbrev pub snapshots : BackupJob → Ordered
snapshots job = record { job = resumed job; adds = at_once BackupDispatch ∷ [] }

-- ---- discontinue

-- A job that goes on may be told once to end.
abbrev pub discontinue_refusal : BackupJob → Option Refusal
discontinue_refusal job =
    continuous_refusal job (if has_ended job.state then true else job.ending)

-- it ends after its manifest, and is running until then
abbrev pub discontinued : BackupJob → BackupJob
discontinued job = record job { state = Running; ending = true }

-- ---- abort

-- A job that has ended can't be given up. The tasks of the others are dropped.
abbrev pub abort_refusal : BackupJob → Option Refusal
abort_refusal job = wrong_if (has_ended job.state) job.state
