-- What a claim takes.
use Rattle.std.specs.Prelude.{ℕ, ◌+◌, Bool, true, not, List, [], ◌∷◌, Option, Some, None}
use Rattle.std.specs.Prelude.{option_map, nat_lt, nat_le, if◌then◌else◌}
use Rattle.std.specs.List.{filter}
use Rattle.fb_bytes.specs.Options.{best_of}
use Rattle.task_bucket.specs.Lists.{Lease, Slot, Lists, slot_with, put_lease}

abbrev pub slot_of : Lease → Slot
slot_of lease = record { uid = lease.uid; task = lease.task }

abbrev pub lease_of : ℕ → Slot → Lease
lease_of until slot = record { until = until; uid = slot.uid; task = slot.task }

-- those that are leased until now at most, as available tasks, and the others
abbrev pub due : ℕ → List Lease → List Slot
due now [] = []
due now (l ∷ ls) = if nat_le l.until now then slot_of l ∷ due now ls else due now ls

abbrev pub not_due : ℕ → List Lease → List Lease
not_due now ls = filter (λ l. not (nat_le l.until now)) ls

-- Where nothing is available, all that are due go back.
abbrev pub returned_to : ℕ → List Slot → List Lease → Lists
returned_to now [] leased = record { available = due now leased; leased = not_due now leased }
returned_to now (s ∷ ss) leased = record { available = s ∷ ss; leased = leased }

abbrev pub returned : ℕ → Lists → Lists
returned now lists = returned_to now lists.available lists.leased

-- the greatest uid at or below the pick, else the least uid
abbrev pub has_greater_uid : Slot → Slot → Bool
has_greater_uid a b = nat_lt b.uid a.uid

abbrev pub has_lesser_uid : Slot → Slot → Bool
has_lesser_uid a b = nat_lt a.uid b.uid

abbrev pub is_at_or_below : ℕ → Slot → Bool
is_at_or_below pick slot = nat_le slot.uid pick

abbrev pub or_least : Option Slot → List Slot → Option Slot
or_least (Some slot) slots = Some slot
or_least None slots = best_of (λ s. true) has_lesser_uid slots

abbrev pub picked : ℕ → List Slot → Option Slot
picked pick slots = or_least (best_of (is_at_or_below pick) has_greater_uid slots) slots

abbrev pub chosen : ℕ → ℕ → Lists → Option Slot
chosen now pick lists = picked pick (returned now lists).available

-- the lease that a claim answers
abbrev pub claimed : ℕ → ℕ → ℕ → Lists → Option Lease
claimed now length pick lists = option_map (lease_of (now + length)) (chosen now pick lists)

-- the task goes from one list to the other
abbrev pub leased_out : ℕ → Slot → Lists → Lists
leased_out until slot lists =
    record {
      available = filter (λ s. not (slot_with slot.uid s)) lists.available;
      leased = put_lease (lease_of until slot) lists.leased;
    }

abbrev pub with_chosen : ℕ → Option Slot → Lists → Lists → Lists
with_chosen until None old lists = old
with_chosen until (Some slot) old lists = leased_out until slot lists

-- the lists after a claim
abbrev pub after_claim : ℕ → ℕ → ℕ → Lists → Lists
after_claim now length pick lists =
    with_chosen (now + length) (chosen now pick lists) lists (returned now lists)
