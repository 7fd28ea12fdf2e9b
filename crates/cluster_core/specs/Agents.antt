-- What agents remember.
use Rattle.std.specs.Prelude.{List, map, ℕ, Option, None, option_map, slice_get}
use Rattle.std.specs.Option.{option_flatten}
use Rattle.backup_core.specs.Kept.{Kept}
use Rattle.task_bucket.specs.declared.Lease.{Lease}
use Rattle.task_bucket.specs.Holders.{Holders}

-- what an agent remembers of the task that it claimed: its lease, and what it took for the task
pub record Memory : Type 0 where
  pub lease : Lease
  pub kept : Option Kept

-- what it remembers right after the claim
abbrev pub new_memory : Lease → Memory
new_memory lease = record { lease = lease; kept = None }

abbrev pub lease_in : Option Memory → Option Lease
lease_in memory = option_map (λ (memory : Memory). memory.lease) memory

-- the lease that each agent remembers, if any
abbrev pub holders_of : List (Option Memory) → Holders
holders_of agents = map lease_in agents

-- what the agent of a number remembers: none where it remembers nothing or isn't there
abbrev pub memory_at : List (Option Memory) → ℕ → Option Memory
memory_at agents number = option_flatten (slice_get agents number)
