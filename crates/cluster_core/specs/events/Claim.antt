-- The event claim: an agent leases a task from the bucket.
use Rattle.std.specs.Prelude.{ℕ, Bool, false, is_none, Option, Some, None, Ok, slice_get, slice_set}
use Rattle.std.specs.Prelude.{if◌then◌else◌}
use Rattle.task_bucket.specs.declared.Lease.{Lease}
use Rattle.task_bucket.specs.Claims.{claimed, after_claim}
use Rattle.workload_text.specs.declared.Settings.{Settings}
use Rattle.cluster_core.specs.declared.event.Answer.TheVariants.{Nothing, NoTask, Paused, Task}
use Rattle.cluster_core.specs.Agents.{Memory, new_memory}
use Rattle.cluster_core.specs.State.{State}
use Rattle.cluster_core.specs.Moves.{Moved, moved}

-- the agent is there, and remembers nothing
abbrev pub is_idle : Option (Option Memory) → Bool
is_idle None = false
is_idle (Some memory) = is_none memory

-- Where nothing is available and nothing is due, there is no task.
abbrev pub claim_with : Settings → State → ℕ → ℕ → Option Lease → Moved
claim_with settings state agent pick None = moved (Ok NoTask) state
claim_with settings state agent pick (Some lease) =
    moved (Ok (Task lease.uid lease.task.kind lease.until))
    (record state {
      bucket = after_claim state.time settings.lease pick state.bucket;
      agents = slice_set state.agents agent (Some (new_memory lease));
    })

-- A claim is made where the agent is there and remembers nothing, and agents aren't paused.
abbrev pub claim : Settings → State → ℕ → ℕ → Moved
claim settings state agent pick =
    if is_idle (slice_get state.agents agent)
    then (if state.paused then moved (Ok Paused) state
    else claim_with settings state agent pick
    (claimed state.time settings.lease pick state.bucket))
    else moved (Ok Nothing) state
