-- What the events of agents give, by the part of the world that they change.
use Rattle.std.specs.Prelude.{◌≡◌, ℕ, Ok}
use Rattle.workload_text.specs.declared.Settings.{Settings}
use Rattle.cluster_core.specs.declared.event.Answer.{Answer}
use Rattle.cluster_core.specs.State.{State}
use Rattle.cluster_core.specs.Moves.{Moved, moved}
use Rattle.cluster_core.specs.events.Claim.{claim}
use Rattle.cluster_core.specs.events.Die.{die}
use Rattle.cluster_core.specs.events.Extend.{extend}
use Rattle.cluster_core.specs.inner.Crew.{Crew}

-- a state with these agents
abbrev pub with_crew : Crew → State → State
with_crew crew state =
    record state {
      bucket = crew.bucket;
      uids = crew.uids;
      paused = crew.paused;
      agents = crew.agents;
    }

-- An event at this version, where leases are so long, is answered so and leaves these agents,
-- whatever else there is.
abbrev pub Crews : (Settings → State → Moved) → ℕ → ℕ → Crew → Answer → Crew → Type 0
Crews event now length old answer new =
    (settings : Settings) (state : State) → settings.lease ≡ length → state.time ≡ now
    → event settings (with_crew old state) ≡ moved (Ok answer) (with_crew new state)

abbrev pub Claims : ℕ → ℕ → ℕ → ℕ → Crew → Answer → Crew → Type 0
Claims agent pick now length old answer new =
    Crews (λ settings state. claim settings state agent pick) now length old answer new

abbrev pub Extends : ℕ → ℕ → ℕ → Crew → Answer → Crew → Type 0
Extends agent now length old answer new =
    Crews (λ settings state. extend settings state agent) now length old answer new

abbrev pub Dies : ℕ → Crew → Answer → Crew → Type 0
Dies agent old answer new =
    (state : State) → die (with_crew old state) agent ≡ moved (Ok answer) (with_crew new state)
