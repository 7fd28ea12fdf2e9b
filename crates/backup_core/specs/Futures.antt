-- What the futures keep of a backup's open tasks.
use Rattle.std.specs.Prelude.{◌≡◌, ℕ, ◌+◌, ◌≤◌, ◌&&◌, not, ◌++◌, ◌==◌, true, List, [], ◌∷◌, length, Option, Some}
use Rattle.std.specs.Prelude.{if◌then◌else◌}
use Rattle.std.specs.List.{find, AllByRecursion}
use Rattle.task_kinds.specs.Tasks.{SeenTask}
use Rattle.task_kinds.specs.Works.{BackupWork, BackupStart, BackupDispatch, BackupRange}
use Rattle.task_kinds.specs.Works.{BackupManifest, BackupLogs, BackupLog, BackupErase}
use Rattle.task_kinds.specs.Works.{BackupFinish, OfBackup, of_backup}
use Rattle.task_kinds.specs.Works.{task_for, future_in, block_in}
use Rattle.task_bucket.specs.Leases.{after_finish}
use Rattle.task_bucket.specs.declared.Lease.{Lease}
use Rattle.task_bucket.specs.Lists.{Lists, is_leased}
use Rattle.task_bucket.specs.Sums.{weigh, of_job, HasUidsOnce, task_at}
use Rattle.task_futures.specs.declared.Part.{Part}
use Rattle.task_futures.specs.Futures.{SeenFuture, greatest_number, next_number, due_of, unblocked}
use Rattle.task_futures.specs.Futures.{without_newest}
use Rattle.task_futures.specs.Laws.{AreFutures}
use Rattle.backup_core.specs.Backups.{BackupJob}
use Rattle.backup_core.specs.Counts.{one_if, ranges, logs}
use Rattle.backup_core.specs.Tasks.{load_of}

-- ---- futures

-- the future with a number
abbrev pub future_at : ℕ → List SeenFuture → Option SeenFuture
future_at number futures = find (λ f. f.number == number) futures

-- how often a number stands in a list
abbrev pub count_of : ℕ → List ℕ → ℕ
count_of n [] = 0
count_of n (m ∷ ms) = one_if (m == n) + count_of n ms

-- ---- what waits

-- what a job's task counts that waits for this block of this future
abbrev pub waits_on : ℕ → (BackupWork → ℕ) → ℕ → ℕ → ℕ → SeenTask → ℕ
waits_on job f future block uid task =
    if future_in task.params == future && block_in task.params == block
    then of_job job (of_backup f) uid task else 0

-- and what one counts that waits for another future
abbrev pub waits_elsewhere : ℕ → (BackupWork → ℕ) → ℕ → ℕ → SeenTask → ℕ
waits_elsewhere job f future uid task =
    if future_in task.params == future then 0 else of_job job (of_backup f) uid task

-- The open tasks of a dispatch wait for one future. It has exactly their blocks, each once, no join,
-- and one task to be added: what comes after the last of them.
pub record IsWaiting (job : ℕ) (f : BackupWork → ℕ) (after : SeenTask) (lists : Lists)
    (futures : List SeenFuture) : Type 0 where
  pub number : ℕ
  pub future : SeenFuture
  pub found : future_at number futures ≡ Some future
  pub callbacks : future.callbacks ≡ after ∷ []
  pub joins : future.joins ≡ []
  pub once : (block : ℕ) → count_of block future.blocks ≤ 1
  pub held : (block : ℕ)
      → weigh (waits_on job f number block) lists ≡ count_of block future.blocks
  pub only : weigh (waits_elsewhere job f number) lists ≡ 0
  pub all : load_of job lists f ≡ length future.blocks

-- what comes after the last piece, and after the last log task
abbrev pub manifest_task : BackupJob → SeenTask
manifest_task job = task_for job.terms.number 0 0 (OfBackup (BackupManifest job.snapshot))

abbrev pub erase_task : BackupJob → SeenTask
erase_task job = task_for job.terms.number 0 0 (OfBackup BackupErase)

-- a piece of another snapshot
abbrev pub of_other : ℕ → BackupWork → ℕ
of_other now BackupStart = 0
of_other now BackupDispatch = 0
of_other now (BackupRange snapshot piece) = one_if (not (snapshot == now))
of_other now (BackupManifest snapshot) = 0
of_other now BackupLogs = 0
of_other now (BackupLog begin end) = 0
of_other now BackupErase = 0
of_other now BackupFinish = 0

-- each join has the number of a future that was made
abbrev pub HaveMadeJoins : ℕ → List SeenFuture → Type 0
HaveMadeJoins greatest futures =
    AllByRecursion (λ f. AllByRecursion (λ (p : Part). p.join ≤ greatest) f.joins) futures

-- Where a piece is open, the open ones are of the present snapshot and wait for one future, and so
-- do the open log tasks.
pub record FuturesFacts (job : BackupJob) (lists : Lists) (futures : List SeenFuture)
    : Type 0 where
  pub are : AreFutures futures
  pub joins : HaveMadeJoins (greatest_number futures) futures
  pub present : load_of job.terms.number lists (of_other job.snapshot) ≡ 0
  pub ranges : 1 ≤ load_of job.terms.number lists ranges
      → IsWaiting job.terms.number ranges (manifest_task job) lists futures
  pub logs : 1 ≤ load_of job.terms.number lists logs
      → IsWaiting job.terms.number logs (erase_task job) lists futures

-- the newest future is taken out again without a trace
abbrev pub NewestLaw : Type 0
NewestLaw = (futures : List SeenFuture) (newest : SeenFuture)
    → HaveMadeJoins (greatest_number futures) futures → newest.number ≡ next_number futures
    → without_newest (futures ++ newest ∷ []) ≡ futures

-- ---- a task that waited is closed

-- a leased task of the bucket that counts one of those that wait
pub record ClosesOne (job : ℕ) (f : BackupWork → ℕ) (lists : Lists) (lease : Lease)
    (task : SeenTask) : Type 0 where
  pub uids : HasUidsOnce lists
  pub leased : is_leased lease.until lease.uid lists ≡ true
  pub there : task_at lease.uid lists ≡ Some task
  pub counts : of_job job (of_backup f) lease.uid task ≡ 1

-- what comes after the last is due exactly where no other task is open, and the others still wait
pub record Unblocks (job : ℕ) (f : BackupWork → ℕ) (after : SeenTask) (left : Lists)
    (futures : List SeenFuture) (future block : ℕ) : Type 0 where
  pub due : due_of future block futures ≡ (if load_of job left f == 0 then after ∷ [] else [])
  pub waiting : IsWaiting job f after left (unblocked future block futures)
  pub are : AreFutures (unblocked future block futures)

abbrev pub WaitingLaw : Type 0
WaitingLaw = (job : ℕ) (f : BackupWork → ℕ) (after : SeenTask) (lists : Lists)
    (futures : List SeenFuture) (lease : Lease) (task : SeenTask) → AreFutures futures
    → IsWaiting job f after lists futures → ClosesOne job f lists lease task
    → Unblocks job f after (after_finish lease lists) futures (future_in task.params)
    (block_in task.params)
