-- The agents, with the tasks that they claim, as one part of the world.
use Rattle.std.specs.Prelude.{ℕ, suc, Bool, false, List, replicate, Option, None}
use Rattle.task_bucket.specs.Lists.{Lists, nothing}
use Rattle.cluster_core.specs.Agents.{Memory}

pub record Crew : Type 0 where
  pub bucket : Lists
  -- the next uid
  pub uids : ℕ
  pub paused : Bool
  -- by their numbers from 0
  pub agents : List (Option Memory)

-- agents up to this number that remember nothing, and no task
abbrev pub new_crew : ℕ → Crew
new_crew last =
    record { bucket = nothing; uids = 1; paused = false; agents = replicate (suc last) None }
