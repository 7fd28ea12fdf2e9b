-- What each thing that happens leaves of the facts on agents' leases.
use Rattle.std.specs.Prelude.{◌≡◌, ◌≢◌, ℕ, ◌+◌, ◌<◌, ◌≤◌, true, false, List, length}
use Rattle.std.specs.Prelude.{Some, None, slice_set}
use Rattle.task_kinds.specs.Tasks.{SeenTask}
use Rattle.task_bucket.specs.Lists.{Lease, Lists, nothing, added, added_asleep}
use Rattle.task_bucket.specs.Lists.{without_uid, without_job, is_leased}
use Rattle.task_bucket.specs.Claims.{claimed, after_claim}
use Rattle.task_bucket.specs.Leases.{retimed, extended, after_extend, after_finish}
use Rattle.task_bucket.specs.Sums.{task_at}
use Rattle.task_bucket.specs.Holders.{Holders, holder_at, HoldersFacts}
use Rattle.task_bucket.specs.Holders.{Adding, added_all}

-- The facts after each thing that happens.
pub record KeepsHolders (now next : ℕ) (lists : Lists) (holders : Holders) : Type 0 where
  -- time goes on, or uids are passed over
  pub later : (time : ℕ) → now ≤ time → HoldersFacts time next lists holders
  pub skip : (more : ℕ) → next ≤ more → HoldersFacts now more lists holders
  -- tasks are added, under the next uids
  pub add : (task : SeenTask) → HoldersFacts now (next + 1) (added next task lists) holders
  pub add_asleep : (until : ℕ) (task : SeenTask)
      → HoldersFacts now (next + 1) (added_asleep until next task lists) holders
  pub add_all : (adds : List Adding)
      → HoldersFacts now (next + length adds) (added_all next adds lists) holders
  -- an agent claims a task and remembers that lease
  pub claim : (agent length pick : ℕ) (lease : Lease) → 1 ≤ length
      → claimed now length pick lists ≡ Some lease
      → HoldersFacts now next (after_claim now length pick lists)
      (slice_set holders agent (Some lease))
  -- an agent extends its lease, which is held, and remembers the new one
  pub extend : (agent length : ℕ) (held new : Lease) → 1 ≤ length
      → holder_at holders agent ≡ Some held → extended held (now + length) lists ≡ Some new
      → HoldersFacts now next (after_extend held (now + length) lists)
      (slice_set holders agent (Some new))
  -- an agent forgets what it remembers, if anything: it dies, or learns that its lease is gone
  pub forget : (agent : ℕ) → HoldersFacts now next lists (slice_set holders agent None)
  -- a lease is finished, by an agent that forgets it, or without that
  pub close : (agent : ℕ) (lease : Lease)
      → HoldersFacts now next (after_finish lease lists) (slice_set holders agent None)
  pub finish : (lease : Lease) → HoldersFacts now next (after_finish lease lists) holders
  -- tasks are taken out
  pub drop_job : (job : ℕ) → HoldersFacts now next (without_job job lists) holders
  pub remove : (uid : ℕ) → HoldersFacts now next (without_uid uid lists) holders

-- A lease that isn't held isn't held after anything that happens.
pub record StaysStale (now next : ℕ) (lists : Lists) (stale : Lease) : Type 0 where
  pub add : (task : SeenTask) → is_leased stale.until stale.uid (added next task lists) ≡ false
  pub add_asleep : (until : ℕ) (task : SeenTask)
      → is_leased stale.until stale.uid (added_asleep until next task lists) ≡ false
  pub add_all : (adds : List Adding)
      → is_leased stale.until stale.uid (added_all next adds lists) ≡ false
  pub claim : (length pick : ℕ) → 1 ≤ length
      → is_leased stale.until stale.uid (after_claim now length pick lists) ≡ false
  pub extend : (lease : Lease) (length : ℕ) → 1 ≤ length
      → is_leased stale.until stale.uid (after_extend lease (now + length) lists) ≡ false
  pub finish : (lease : Lease) → is_leased stale.until stale.uid (after_finish lease lists) ≡ false
  pub drop_job : (job : ℕ) → is_leased stale.until stale.uid (without_job job lists) ≡ false
  pub remove : (uid : ℕ) → is_leased stale.until stale.uid (without_uid uid lists) ≡ false

-- What the facts tell of claims and of the leases that agents remember.
pub record TellsOfHolders (now next : ℕ) (lists : Lists) (holders : Holders) : Type 0 where
  -- a claim's lease
  pub claim : (length pick : ℕ) (lease : Lease) → claimed now length pick lists ≡ Some lease
      → (lease.uid < next) × (lease.until ≡ now + length)
  -- a claim that answers none leaves the lists
  pub claim_none : (length pick : ℕ) → claimed now length pick lists ≡ None
      → after_claim now length pick lists ≡ lists
  -- the lease that is held is extended
  pub extend : (agent until : ℕ) (held : Lease) → holder_at holders agent ≡ Some held
      → is_leased held.until held.uid lists ≡ true
      → extended held until lists ≡ Some (retimed until held)
  -- its task is the one in the lists
  pub holds_task : (agent : ℕ) (held : Lease) → holder_at holders agent ≡ Some held
      → is_leased held.until held.uid lists ≡ true → task_at held.uid lists ≡ Some held.task
  -- what other agents remember of that task is another lease, which isn't held
  pub others_stale : (agent other : ℕ) (held stale : Lease)
      → holder_at holders agent ≡ Some held → holder_at holders other ≡ Some stale
      → other ≢ agent → stale.uid ≡ held.uid → is_leased held.until held.uid lists ≡ true
      → (stale.until ≢ held.until) × (is_leased stale.until stale.uid lists ≡ false)
  -- a lease that isn't held is never held again
  pub stays_stale : (agent : ℕ) (stale : Lease) → holder_at holders agent ≡ Some stale
      → is_leased stale.until stale.uid lists ≡ false → StaysStale now next lists stale

-- What agents remember, over all that happens. Each change of what one of them remembers is a
-- `slice_set`, so that it can be a list that is got by `map` from more that agents remember.
pub record HoldersLaw : Type 0 where
  -- nothing stands in the lists, and no agent remembers a lease
  pub empty : (now next : ℕ) (holders : Holders)
      → ((agent : ℕ) → holder_at holders agent ≡ None) → HoldersFacts now next nothing holders
  pub keeps : (now next : ℕ) (lists : Lists) (holders : Holders)
      → HoldersFacts now next lists holders → KeepsHolders now next lists holders
  pub tells : (now next : ℕ) (lists : Lists) (holders : Holders)
      → HoldersFacts now next lists holders → TellsOfHolders now next lists holders
