-- What agents remember of the leases that they claimed.
use Rattle.std.specs.Prelude.{◌≡◌, ℕ, ◌+◌, ◌<◌, ◌≤◌, true, false, List, [], ◌∷◌, Option, Some, None}
use Rattle.std.specs.Prelude.{◌⊎◌, slice_get}
use Rattle.std.specs.Option.{option_flatten}
use Rattle.fb_bytes.specs.Options.{IsIn}
use Rattle.task_kinds.specs.Tasks.{SeenTask}
use Rattle.task_bucket.specs.Lists.{Lease, Slot, Lists, has_uid, added, added_asleep, is_leased}
use Rattle.task_bucket.specs.Sums.{HasUidsOnce}

-- the lease that each agent remembers, if any; agent 0 is the first
abbrev pub Holders : Type 0
Holders = List (Option Lease)

-- none past the end
abbrev pub holder_at : Holders → ℕ → Option Lease
holder_at holders agent = option_flatten (slice_get holders agent)

-- No uid from the next one on stands in the lists.
abbrev pub HasFreshUids : ℕ → Lists → Type 0
HasFreshUids next lists = (uid : ℕ) → next ≤ uid → has_uid uid lists ≡ false

-- What a lease that is remembered has to do with the lists. Where its task is available, its time
-- is over; where the task is leased, its time is over, or this is the lease.
pub record Remembers (now next : ℕ) (lists : Lists) (held : Lease) : Type 0 where
  pub drawn : held.uid < next
  pub available : (slot : Slot) → IsIn slot lists.available → slot.uid ≡ held.uid
      → (held.until ≤ now) × (slot.task ≡ held.task)
  pub leased : (lease : Lease) → IsIn lease lists.leased → lease.uid ≡ held.uid
      → ((held.until ≤ now) ⊎ (lease.until ≡ held.until)) × (lease.task ≡ held.task)

-- No two agents remember one lease that is held.
abbrev pub AreAlone : Lists → Holders → Type 0
AreAlone lists holders =
    (agent other : ℕ) (first second : Lease) → holder_at holders agent ≡ Some first
    → holder_at holders other ≡ Some second → first.uid ≡ second.uid
    → first.until ≡ second.until → is_leased first.until first.uid lists ≡ true → agent ≡ other

-- What is kept of the lists and of what agents remember. Nothing is said of a lease that nobody
-- remembers: a task asleep has one, and an agent that died may have left one.
pub record HoldersFacts (now next : ℕ) (lists : Lists) (holders : Holders) : Type 0 where
  pub once : HasUidsOnce lists
  pub fresh : HasFreshUids next lists
  pub each : (agent : ℕ) (held : Lease) → holder_at holders agent ≡ Some held
      → Remembers now next lists held
  pub alone : AreAlone lists holders

-- A task to be added: it is available at once, or sleeps until a version.
pub record Adding : Type 0 where
  pub until : Option ℕ
  pub task : SeenTask

abbrev pub added_until : Option ℕ → ℕ → SeenTask → Lists → Lists
added_until None uid task lists = added uid task lists
added_until (Some until) uid task lists = added_asleep until uid task lists

-- the lists after tasks are added one after the other, from this uid on
abbrev pub added_all : ℕ → List Adding → Lists → Lists
added_all next [] lists = lists
added_all next (adding ∷ more) lists =
    added_all (next + 1) more (added_until adding.until next adding.task lists)
