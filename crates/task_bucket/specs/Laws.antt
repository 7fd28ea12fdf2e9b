-- What each call of a bucket leaves of the sums over its tasks.
use Rattle.std.specs.Prelude.{◌≡◌, ◌≢◌, ℕ, ◌+◌, ◌≤◌, true, false, Some, nat_le}
use Rattle.std.specs.Option.{is_some}
use Rattle.fb_bytes.specs.Options.{IsIn}
use Rattle.task_kinds.specs.Tasks.{SeenTask}
use Rattle.task_kinds.specs.Works.{Work}
use Rattle.task_bucket.specs.Lists.{Slot, Lease, Lists, nothing, has_uid, added}
use Rattle.task_bucket.specs.Lists.{added_asleep, without_uid, without_job, is_leased}
use Rattle.task_bucket.specs.Claims.{claimed, after_claim}
use Rattle.task_bucket.specs.Leases.{extended, after_extend, after_finish}
use Rattle.task_bucket.specs.Sums.{weigh, load, of_uid, is_uid, HasUidsOnce, task_at}

-- After each call each uid stands at most once, after an adding where the uid is fresh.
pub record KeepsUidsOnce (lists : Lists) : Type 0 where
  pub add : (uid : ℕ) (task : SeenTask) → has_uid uid lists ≡ false
      → HasUidsOnce (added uid task lists)
  pub add_asleep : (until uid : ℕ) (task : SeenTask) → has_uid uid lists ≡ false
      → HasUidsOnce (added_asleep until uid task lists)
  pub claim : (now length pick : ℕ) → HasUidsOnce (after_claim now length pick lists)
  pub extend : (lease : Lease) (new : ℕ) → HasUidsOnce (after_extend lease new lists)
  pub finish : (lease : Lease) → HasUidsOnce (after_finish lease lists)
  pub drop_job : (job : ℕ) → HasUidsOnce (without_job job lists)
  pub remove : (uid : ℕ) → HasUidsOnce (without_uid uid lists)

-- The task of each uid, where each stands at most once.
pub record HasTasks (lists : Lists) : Type 0 where
  -- the tasks with a uid count what its one task does
  pub at : (f : ℕ → SeenTask → ℕ) (uid : ℕ) (task : SeenTask) → task_at uid lists ≡ Some task
      → weigh (of_uid uid f) lists ≡ f uid task
  -- what stands in the lists is the task of its uid, and so is what a claim or an extend answers
  pub available : (slot : Slot) → IsIn slot lists.available
      → task_at slot.uid lists ≡ Some slot.task
  pub leased : (lease : Lease) → IsIn lease lists.leased
      → task_at lease.uid lists ≡ Some lease.task
  pub claimed : (now length pick : ℕ) (lease : Lease)
      → claimed now length pick lists ≡ Some lease → task_at lease.uid lists ≡ Some lease.task
  pub extended : (lease new : Lease) (until : ℕ) → extended lease until lists ≡ Some new
      → task_at lease.uid lists ≡ Some new.task

-- What each call leaves of the sums, and what sums say of the uids.
pub record SumsLaw : Type 0 where
  -- adding a task adds its number to each sum
  pub add : (f : ℕ → SeenTask → ℕ) (uid : ℕ) (task : SeenTask) (lists : Lists)
      → weigh f (added uid task lists) ≡ f uid task + weigh f lists
  pub add_asleep : (f : ℕ → SeenTask → ℕ) (until uid : ℕ) (task : SeenTask) (lists : Lists)
      → weigh f (added_asleep until uid task lists) ≡ f uid task + weigh f lists
  -- a claim and an extend leave each sum
  pub claim : (f : ℕ → SeenTask → ℕ) (now length pick : ℕ) (lists : Lists) → HasUidsOnce lists
      → weigh f (after_claim now length pick lists) ≡ weigh f lists
  pub extend : (f : ℕ → SeenTask → ℕ) (lease : Lease) (new : ℕ) (lists : Lists)
      → weigh f (after_extend lease new lists) ≡ weigh f lists
  -- a finish of a lease that is held takes its task's number off, and of another one nothing
  pub finish : (f : ℕ → SeenTask → ℕ) (lease : Lease) (lists : Lists) → HasUidsOnce lists
      → is_leased lease.until lease.uid lists ≡ true
      → weigh (of_uid lease.uid f) lists + weigh f (after_finish lease lists) ≡ weigh f lists
  pub finish_none : (lease : Lease) (lists : Lists)
      → is_leased lease.until lease.uid lists ≡ false → after_finish lease lists ≡ lists
  -- a job that is dropped has no load, the loads of others stay, and no sum grows
  pub drop_job : (job : ℕ) (lists : Lists) (f : Work → ℕ) → load job (without_job job lists) f ≡ 0
  pub drop_other : (job other : ℕ) (lists : Lists) (f : Work → ℕ) → other ≢ job
      → load other (without_job job lists) f ≡ load other lists f
  pub drop_less : (f : ℕ → SeenTask → ℕ) (job : ℕ) (lists : Lists)
      → weigh f (without_job job lists) ≤ weigh f lists
  -- removing a uid takes its number off
  pub remove : (f : ℕ → SeenTask → ℕ) (uid : ℕ) (lists : Lists)
      → weigh (of_uid uid f) lists + weigh f (without_uid uid lists) ≡ weigh f lists
  -- uids that stand at most once
  pub empty : HasUidsOnce nothing
  pub once : (lists : Lists) → HasUidsOnce lists → KeepsUidsOnce lists
  pub tasks : (lists : Lists) → HasUidsOnce lists → HasTasks lists
  -- a uid stands in the lists exactly where it is counted, and where it has a task
  pub counted : (uid : ℕ) (lists : Lists) → has_uid uid lists ≡ nat_le 1 (weigh (is_uid uid) lists)
  pub found : (uid : ℕ) (lists : Lists) → has_uid uid lists ≡ is_some (task_at uid lists)
  pub held : (until uid : ℕ) (lists : Lists) → is_leased until uid lists ≡ true
      → has_uid uid lists ≡ true
  pub fresh : (f : ℕ → SeenTask → ℕ) (uid : ℕ) (lists : Lists) → has_uid uid lists ≡ false
      → weigh (of_uid uid f) lists ≡ 0
  -- where each task counts no more, all do; and what two numbers count is the sum of both
  pub less : (f g : ℕ → SeenTask → ℕ) (lists : Lists)
      → ((uid : ℕ) (task : SeenTask) → f uid task ≤ g uid task) → weigh f lists ≤ weigh g lists
  pub sum : (f g : ℕ → SeenTask → ℕ) (lists : Lists)
      → weigh (λ uid task. f uid task + g uid task) lists ≡ weigh f lists + weigh g lists
  pub load_less : (job : ℕ) (lists : Lists) (f g : Work → ℕ)
      → ((work : Work) → f work ≤ g work) → load job lists f ≤ load job lists g
  pub load_sum : (job : ℕ) (lists : Lists) (f g : Work → ℕ)
      → load job lists (λ work. f work + g work) ≡ load job lists f + load job lists g
