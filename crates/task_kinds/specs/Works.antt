-- What a task is to do, by the type of its job: its kind, and its parameters but for the future and
-- the block that wait for it.
use Rattle.std.specs.Prelude.{ℕ, Option, Some, None}
use Rattle.fb_bytes.specs.declared.key_range.KeyRange.{KeyRange}
use Rattle.task_kinds.specs.declared.kind.Kind.{Kind}
use Rattle.task_kinds.specs.declared.kind.Kind.TheVariants as kinds
use Rattle.task_kinds.specs.declared.params.Params.{Params}
use Rattle.task_kinds.specs.declared.params.Params.TheVariants.{Nothing, Piece, Snapshot, Span}
use Rattle.task_kinds.specs.declared.params.Params.TheVariants.{File, Range}
use Rattle.task_kinds.specs.Tasks.{SeenTask}

-- What a backup's task is to do. `snapshot` is the version of the dispatch.
pub data BackupWork : Type 0 where
  BackupStart : BackupWork
  BackupDispatch : BackupWork
  BackupRange : (snapshot : ℕ) (range : KeyRange) → BackupWork
  BackupManifest : (snapshot : ℕ) → BackupWork
  BackupLogs : BackupWork
  BackupLog : (begin end : ℕ) → BackupWork
  BackupErase : BackupWork
  BackupFinish : BackupWork

-- What a restore's task is to do. `place` is that of a file in the restore's ranges or links.
pub data RestoreWork : Type 0 where
  RestoreStart : RestoreWork
  RestoreDispatch : RestoreWork
  RestoreRange : (place : ℕ) → RestoreWork
  RestoreLog : (place : ℕ) → RestoreWork
  RestoreApply : RestoreWork
  RestoreComplete : RestoreWork

-- What a DR's task is to do.
pub data DrWork : Type 0 where
  DrStart : DrWork
  DrCopy : (range : KeyRange) → DrWork
  DrLogs : DrWork
  DrLog : (begin end : ℕ) → DrWork
  DrApply : DrWork
  DrErase : DrWork
  DrFinish : DrWork

-- What a task is to do.
pub data Work : Type 0 where
  OfBackup : (work : BackupWork) → Work
  OfRestore : (work : RestoreWork) → Work
  OfDr : (work : DrWork) → Work

-- ---- numbers of works

-- a number for each of one job type's works, lifted to all works: the others count 0
abbrev pub of_backup : (BackupWork → ℕ) → Work → ℕ
of_backup f (OfBackup work) = f work
of_backup f (OfRestore work) = 0
of_backup f (OfDr work) = 0

abbrev pub of_restore : (RestoreWork → ℕ) → Work → ℕ
of_restore f (OfBackup work) = 0
of_restore f (OfRestore work) = f work
of_restore f (OfDr work) = 0

abbrev pub of_dr : (DrWork → ℕ) → Work → ℕ
of_dr f (OfBackup work) = 0
of_dr f (OfRestore work) = 0
of_dr f (OfDr work) = f work

-- every work counts one
abbrev pub every : Work → ℕ
every work = 1

-- ---- the work of a task

-- the work of a kind with these parameters, none where they aren't the kind's
abbrev pub work_with : Kind → Params → Option Work
work_with kinds.BackupStart Nothing = Some (OfBackup BackupStart)
work_with kinds.BackupDispatch Nothing = Some (OfBackup BackupDispatch)
work_with kinds.BackupRange (Piece snapshot range future block) =
    Some (OfBackup (BackupRange snapshot range))
work_with kinds.BackupManifest (Snapshot snapshot) = Some (OfBackup (BackupManifest snapshot))
work_with kinds.BackupLogs Nothing = Some (OfBackup BackupLogs)
work_with kinds.BackupLog (Span begin end future block) = Some (OfBackup (BackupLog begin end))
work_with kinds.BackupErase Nothing = Some (OfBackup BackupErase)
work_with kinds.BackupFinish Nothing = Some (OfBackup BackupFinish)
work_with kinds.RestoreStart Nothing = Some (OfRestore RestoreStart)
work_with kinds.RestoreDispatch Nothing = Some (OfRestore RestoreDispatch)
work_with kinds.RestoreRange (File place future block) = Some (OfRestore (RestoreRange place))
work_with kinds.RestoreLog (File place future block) = Some (OfRestore (RestoreLog place))
work_with kinds.RestoreApply Nothing = Some (OfRestore RestoreApply)
work_with kinds.RestoreComplete Nothing = Some (OfRestore RestoreComplete)
work_with kinds.DrStart Nothing = Some (OfDr DrStart)
work_with kinds.DrCopy (Range range future block) = Some (OfDr (DrCopy range))
work_with kinds.DrLogs Nothing = Some (OfDr DrLogs)
work_with kinds.DrLog (Span begin end future block) = Some (OfDr (DrLog begin end))
work_with kinds.DrApply Nothing = Some (OfDr DrApply)
work_with kinds.DrErase Nothing = Some (OfDr DrErase)
work_with kinds.DrFinish Nothing = Some (OfDr DrFinish)
work_with _ _ = None

-- the work of a task
abbrev pub work_of : SeenTask → Option Work
work_of task = work_with task.kind task.params

-- what a work counts, 0 where there is none
abbrev pub number_in : (Work → ℕ) → Option Work → ℕ
number_in f None = 0
number_in f (Some work) = f work

-- what a task counts
abbrev pub number_of : (Work → ℕ) → SeenTask → ℕ
number_of f task = number_in f (work_of task)

-- ---- the task of a work

-- a task by its parts
abbrev pub task_as : ℕ → Kind → Params → SeenTask
task_as job kind params = record { job = job; kind = kind; params = params }

-- the task of a job, a future and a block for a work; where its kind has neither, without them
abbrev pub task_for : ℕ → ℕ → ℕ → Work → SeenTask
task_for job future block (OfBackup BackupStart) = task_as job kinds.BackupStart Nothing
task_for job future block (OfBackup BackupDispatch) = task_as job kinds.BackupDispatch Nothing
task_for job future block (OfBackup (BackupRange snapshot range)) =
    task_as job kinds.BackupRange (Piece snapshot range future block)
task_for job future block (OfBackup (BackupManifest snapshot)) =
    task_as job kinds.BackupManifest (Snapshot snapshot)
task_for job future block (OfBackup BackupLogs) = task_as job kinds.BackupLogs Nothing
task_for job future block (OfBackup (BackupLog begin end)) =
    task_as job kinds.BackupLog (Span begin end future block)
task_for job future block (OfBackup BackupErase) = task_as job kinds.BackupErase Nothing
task_for job future block (OfBackup BackupFinish) = task_as job kinds.BackupFinish Nothing
task_for job future block (OfRestore RestoreStart) = task_as job kinds.RestoreStart Nothing
task_for job future block (OfRestore RestoreDispatch) = task_as job kinds.RestoreDispatch Nothing
task_for job future block (OfRestore (RestoreRange place)) =
    task_as job kinds.RestoreRange (File place future block)
task_for job future block (OfRestore (RestoreLog place)) =
    task_as job kinds.RestoreLog (File place future block)
task_for job future block (OfRestore RestoreApply) = task_as job kinds.RestoreApply Nothing
task_for job future block (OfRestore RestoreComplete) = task_as job kinds.RestoreComplete Nothing
task_for job future block (OfDr DrStart) = task_as job kinds.DrStart Nothing
task_for job future block (OfDr (DrCopy range)) =
    task_as job kinds.DrCopy (Range range future block)
task_for job future block (OfDr DrLogs) = task_as job kinds.DrLogs Nothing
task_for job future block (OfDr (DrLog begin end)) =
    task_as job kinds.DrLog (Span begin end future block)
task_for job future block (OfDr DrApply) = task_as job kinds.DrApply Nothing
task_for job future block (OfDr DrErase) = task_as job kinds.DrErase Nothing
task_for job future block (OfDr DrFinish) = task_as job kinds.DrFinish Nothing

-- the future and the block in parameters, 0 where there are none
abbrev pub future_in : Params → ℕ
future_in Nothing = 0
future_in (Piece snapshot range future block) = future
future_in (Snapshot snapshot) = 0
future_in (Span begin end future block) = future
future_in (File place future block) = future
future_in (Range range future block) = future

abbrev pub block_in : Params → ℕ
block_in Nothing = 0
block_in (Piece snapshot range future block) = block
block_in (Snapshot snapshot) = 0
block_in (Span begin end future block) = block
block_in (File place future block) = block
block_in (Range range future block) = block
