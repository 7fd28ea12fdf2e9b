-- The event extend: an agent asks for a later until of its lease.
use Rattle.std.specs.Prelude.{ℕ, ◌+◌, Option, Some, None, Ok, slice_set}
use Rattle.task_bucket.specs.declared.Lease.{Lease}
use Rattle.task_bucket.specs.Leases.{extended, after_extend}
use Rattle.workload_text.specs.declared.Settings.{Settings}
use Rattle.cluster_core.specs.declared.event.Answer.TheVariants.{Nothing, Until, Interrupted}
use Rattle.cluster_core.specs.Agents.{Memory, memory_at}
use Rattle.cluster_core.specs.State.{State}
use Rattle.cluster_core.specs.Moves.{Moved, moved}

-- An agent whose lease is gone remembers it on.
abbrev pub extend_lease : Settings → State → ℕ → Memory → Option Lease → Moved
extend_lease settings state agent memory None =
    moved (Ok (Interrupted memory.lease.uid)) state
extend_lease settings state agent memory (Some lease) =
    moved (Ok (Until (state.time + settings.lease)))
    (record state {
      bucket = after_extend memory.lease (state.time + settings.lease) state.bucket;
      agents = slice_set state.agents agent (Some (record memory { lease = lease }));
    })

abbrev pub extend_with : Settings → State → ℕ → Option Memory → Moved
extend_with settings state agent None = moved (Ok Nothing) state
extend_with settings state agent (Some memory) =
    extend_lease settings state agent memory
    (extended memory.lease (state.time + settings.lease) state.bucket)

-- The lease that the agent remembers is extended, where it is still leased so.
abbrev pub extend : Settings → State → ℕ → Moved
extend settings state agent = extend_with settings state agent (memory_at state.agents agent)
