-- What becomes of a lease.
use Rattle.std.specs.Prelude.{ℕ, not, List, [], ◌∷◌, Option, Some, None, map, if◌then◌else◌}
use Rattle.std.specs.List.{filter}
use Rattle.task_bucket.specs.Lists.{Lease, Lists, is_lease}

abbrev pub retimed : ℕ → Lease → Lease
retimed until lease = record { until = until; uid = lease.uid; task = lease.task }

-- the lease of this uid until this version, with another until
abbrev pub extended_in : ℕ → ℕ → ℕ → List Lease → Option Lease
extended_in until uid new [] = None
extended_in until uid new (l ∷ ls) =
    if is_lease until uid l then Some (retimed new l) else extended_in until uid new ls

abbrev pub extended : Lease → ℕ → Lists → Option Lease
extended lease new lists = extended_in lease.until lease.uid new lists.leased

abbrev pub retimed_if : ℕ → ℕ → ℕ → Lease → Lease
retimed_if until uid new lease =
    record {
      until = if is_lease until uid lease then new else lease.until;
      uid = lease.uid;
      task = lease.task;
    }

-- the lists where this lease has another until, and where it is finished
abbrev pub retimed_in : ℕ → ℕ → ℕ → Lists → Lists
retimed_in until uid new lists =
    record { available = lists.available; leased = map (retimed_if until uid new) lists.leased }

abbrev pub after_extend : Lease → ℕ → Lists → Lists
after_extend lease new lists = retimed_in lease.until lease.uid new lists

abbrev pub finished_in : ℕ → ℕ → Lists → Lists
finished_in until uid lists =
    record {
      available = lists.available;
      leased = filter (λ l. not (is_lease until uid l)) lists.leased;
    }

abbrev pub after_finish : Lease → Lists → Lists
after_finish lease lists = finished_in lease.until lease.uid lists
