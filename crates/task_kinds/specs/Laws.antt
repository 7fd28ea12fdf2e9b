-- What holds of tasks and their works.
use Rattle.std.specs.Prelude.{◌≡◌, ℕ, Some}
use Rattle.task_kinds.specs.Tasks.{SeenTask, IsTask}
use Rattle.task_kinds.specs.Works.{Work, work_of, task_for, future_in, block_in}

-- what it is to do is known
abbrev pub HasWork : SeenTask → Type 0
HasWork task = (work : Work) × (work_of task ≡ Some work)

pub record WorkLaw : Type 0 where
  -- each task has a work
  pub each : (task : SeenTask) → IsTask task → HasWork task
  -- tasks of one job with one work differ in future and block alone
  pub only : (task : SeenTask) (work : Work) → work_of task ≡ Some work
      → task ≡ task_for task.job (future_in task.params) (block_in task.params) work
  -- each work is that of a task
  pub again : (job future block : ℕ) (work : Work)
      → work_of (task_for job future block work) ≡ Some work
