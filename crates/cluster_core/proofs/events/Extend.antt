-- The event extend.
use Rattle.std.specs.Prelude.{◌≡◌, ℕ, ◌+◌, Option, Some, None, refl}
use Rattle.std.proofs.Common.{arith, inl}
use Rattle.task_bucket.specs.declared.Lease.{Lease}
use Rattle.task_bucket.specs.Leases.{extended, after_extend}
use Rattle.workload_text.specs.declared.Settings.{Settings}
use Rattle.workload_text.specs.declared.Workload.{Workload}
use Rattle.cluster_core.specs.Agents.{Memory, memory_at}
use Rattle.cluster_core.specs.State.{State}
use Rattle.cluster_core.specs.events.Extend.{extend_lease, extend_with}
use Rattle.cluster_core.specs.Sound.{Sound}
use Rattle.cluster_core.proofs.Frames.{sound_held}
use Rattle.cluster_core.proofs.Holding.{agents_extend}
use Rattle.cluster_core.proofs.Known.{Known}
use Rattle.cluster_core.proofs.Paces.{lease_forward}
use Rattle.cluster_core.proofs.Touching.{Touches, same}

lease_touches : (s : Settings) (w : State) (agent : ℕ) (memory : Memory) (o : Option Lease) → Touches s.pace w (extend_lease s w agent memory o)
lease_touches s w agent memory None = same s.pace w _
lease_touches s w agent memory (Some lease) = record { starved = λ e. cc; since = omega arith; upto = omega arith; src = inl refl; dst = inl refl; sides = inl refl; jobs = inl refl; files = inl refl }

pub extend_touches : (s : Settings) (w : State) (agent : ℕ) (o : Option Memory) → Touches s.pace w (extend_with s w agent o)
extend_touches s w agent None = same s.pace w _
extend_touches s w agent (Some memory) = lease_touches s w agent memory (extended memory.lease (w.time + s.lease) w.bucket)

lease_keeps : (k : Known) (p : Workload) (w : State) (agent : ℕ) (memory : Memory) (o : Option Lease) → memory_at w.agents agent ≡ Some memory → extended memory.lease (w.time + p.settings.lease) w.bucket ≡ o → Sound p w → Sound p (extend_lease p.settings w agent memory o).state
lease_keeps k p w agent memory None at e h = h
lease_keeps k p w agent memory (Some lease) at e h = sound_held p w (after_extend memory.lease (w.time + p.settings.lease) w.bucket) _ (agents_extend k p.settings.agents w.time w.uids p.settings.lease w.bucket w.agents w.jobs agent memory lease (lease_forward p) at e h.agents) h

pub extend_keeps : (k : Known) (p : Workload) (w : State) (agent : ℕ) (o : Option Memory) → memory_at w.agents agent ≡ o → Sound p w → Sound p (extend_with p.settings w agent o).state
extend_keeps k p w agent None at h = h
extend_keeps k p w agent (Some memory) at h = lease_keeps k p w agent memory (extended memory.lease (w.time + p.settings.lease) w.bucket) at refl h
