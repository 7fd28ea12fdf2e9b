-- A backup's tasks: their sums in a bucket, and tasks to be added.
use Rattle.std.specs.Prelude.{◌≡◌, ℕ, ◌+◌, ◌≤◌, List, [], ◌∷◌, Option, Some, None}
use Rattle.task_kinds.specs.Tasks.{SeenTask}
use Rattle.task_kinds.specs.Works.{BackupWork, OfBackup, of_backup, work_of}
use Rattle.task_bucket.specs.Lists.{Lists}
use Rattle.task_bucket.specs.Sums.{load}

-- the sum of a number over a job's tasks
abbrev pub Load : Type 0
Load = (BackupWork → ℕ) → ℕ

-- the sum over a backup's tasks in a bucket
abbrev pub load_of : ℕ → Lists → Load
load_of job lists f = load job lists (of_backup f)

-- what every sum keeps: where each task counts no more, all do, and what two numbers count is the
-- sum of both
pub record IsLoad (load : Load) : Type 0 where
  pub less : (f g : BackupWork → ℕ) → ((work : BackupWork) → f work ≤ g work) → load f ≤ load g
  pub sum : (f g : BackupWork → ℕ) → load (λ work. f work + g work) ≡ load f + load g

-- the task stands among those of the sum
abbrev pub HasTask : Load → BackupWork → Type 0
HasTask load work = (f : BackupWork → ℕ) → f work ≤ load f

-- the task is one of the job's, and does this
pub record IsTaskOf (job : ℕ) (work : BackupWork) (task : SeenTask) : Type 0 where
  pub job_is : task.job ≡ job
  pub work_is : work_of task ≡ Some (OfBackup work)

-- A task to be added: it is available at once, or sleeps until a version.
pub record Adding : Type 0 where
  pub until : Option ℕ
  pub work : BackupWork

abbrev pub at_once : BackupWork → Adding
at_once work = record { until = None; work = work }

abbrev pub asleep : ℕ → BackupWork → Adding
asleep until work = record { until = Some until; work = work }

-- the sum of a number over tasks to be added
abbrev pub adds : (BackupWork → ℕ) → List Adding → ℕ
adds f [] = 0
adds f (adding ∷ more) = f adding.work + adds f more
