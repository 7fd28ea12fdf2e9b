-- The two lists of a bucket, each in the order of the uids.
use Rattle.std.specs.Prelude.{ℕ, Bool, false, not, ◌&&◌, ◌||◌, List, [], ◌∷◌, Option, Some, None}
use Rattle.std.specs.Prelude.{min, nat_lt, ◌==◌, if◌then◌else◌}
use Rattle.std.specs.List.{filter}
use Rattle.task_kinds.specs.Tasks.{SeenTask}
pub use Rattle.task_bucket.specs.declared.lease.Lease.{Lease}

-- an available task
pub record Slot : Type 0 where
  pub uid : ℕ
  pub task : SeenTask

pub record Lists : Type 0 where
  pub available : List Slot
  pub leased : List Lease

abbrev pub nothing : Lists
nothing = record { available = []; leased = [] }

abbrev pub slot_with : ℕ → Slot → Bool
slot_with uid slot = slot.uid == uid

abbrev pub lease_with : ℕ → Lease → Bool
lease_with uid lease = lease.uid == uid

abbrev pub any_of : {A : Type 0} → (A → Bool) → List A → Bool
any_of test [] = false
any_of test (x ∷ xs) = test x || any_of test xs

-- the uid stands in one of the two lists
abbrev pub has_uid : ℕ → Lists → Bool
has_uid uid lists = any_of (slot_with uid) lists.available || any_of (lease_with uid) lists.leased

-- before the first with a greater uid
abbrev pub put_slot : Slot → List Slot → List Slot
put_slot slot [] = slot ∷ []
put_slot slot (s ∷ ss) = if nat_lt slot.uid s.uid then slot ∷ s ∷ ss else s ∷ put_slot slot ss

abbrev pub put_lease : Lease → List Lease → List Lease
put_lease lease [] = lease ∷ []
put_lease lease (l ∷ ls) = if nat_lt lease.uid l.uid then lease ∷ l ∷ ls else l ∷ put_lease lease ls

abbrev pub added : ℕ → SeenTask → Lists → Lists
added uid task lists =
    record {
      available = put_slot (record { uid = uid; task = task }) lists.available;
      leased = lists.leased;
    }

abbrev pub added_asleep : ℕ → ℕ → SeenTask → Lists → Lists
added_asleep until uid task lists =
    record {
      available = lists.available;
      leased = put_lease (record { until = until; uid = uid; task = task }) lists.leased;
    }

-- both lists without a uid, and without the tasks of a job
abbrev pub without_uid : ℕ → Lists → Lists
without_uid uid lists =
    record {
      available = filter (λ s. not (slot_with uid s)) lists.available;
      leased = filter (λ l. not (lease_with uid l)) lists.leased;
    }

abbrev pub without_job : ℕ → Lists → Lists
without_job job lists =
    record {
      available = filter (λ s. not (s.task.job == job)) lists.available;
      leased = filter (λ l. not (l.task.job == job)) lists.leased;
    }

-- until this version, with this uid
abbrev pub is_lease : ℕ → ℕ → Lease → Bool
is_lease until uid lease = lease.until == until && lease.uid == uid

abbrev pub is_leased : ℕ → ℕ → Lists → Bool
is_leased until uid lists = any_of (is_lease until uid) lists.leased

-- the least until
abbrev pub lesser_of : ℕ → Option ℕ → Option ℕ
lesser_of n None = Some n
lesser_of n (Some m) = Some (min n m)

abbrev pub least_until : List Lease → Option ℕ
least_until [] = None
least_until (l ∷ ls) = lesser_of l.until (least_until ls)

abbrev pub earliest_of : Lists → Option ℕ
earliest_of lists = least_until lists.leased
