-- The event claim.
use Rattle.std.specs.Prelude.{◌≡◌, ℕ, Bool, true, false, cond, Option, Some, None, Ok, slice_get, refl}
use Rattle.std.proofs.Common.{arith, inl}
use Rattle.task_bucket.specs.declared.Lease.{Lease}
use Rattle.task_bucket.specs.Claims.{claimed, after_claim}
use Rattle.workload_text.specs.declared.Settings.{Settings}
use Rattle.workload_text.specs.declared.Workload.{Workload}
use Rattle.cluster_core.specs.declared.event.Answer.TheVariants.{Nothing, Paused}
use Rattle.cluster_core.specs.State.{State}
use Rattle.cluster_core.specs.Moves.{moved}
use Rattle.cluster_core.specs.events.Claim.{is_idle, claim_with, claim}
use Rattle.cluster_core.specs.Sound.{Sound}
use Rattle.cluster_core.proofs.Frames.{sound_held}
use Rattle.cluster_core.proofs.Holding.{agents_claim}
use Rattle.cluster_core.proofs.Known.{Known}
use Rattle.cluster_core.proofs.Paces.{lease_forward}
use Rattle.cluster_core.proofs.Touching.{Touches, same}

pub claim_touches : (s : Settings) (w : State) (agent pick : ℕ) → Touches s.pace w (claim s w agent pick)
claim_touches s w agent pick = go (is_idle (slice_get w.agents agent)) w.paused (claimed w.time s.lease pick w.bucket)
  where
    go : (idle paused : Bool) (o : Option Lease) → Touches s.pace w (cond idle (cond paused (moved (Ok Paused) w) (claim_with s w agent pick o)) (moved (Ok Nothing) w))
    go false paused o = same s.pace w _
    go true true o = same s.pace w _
    go true false None = same s.pace w _
    go true false (Some lease) = record { starved = λ e. cc; since = omega arith; upto = omega arith; src = inl refl; dst = inl refl; sides = inl refl; jobs = inl refl; files = inl refl }

pub claim_keeps : (k : Known) (p : Workload) (w : State) (agent pick : ℕ) → Sound p w → Sound p (claim p.settings w agent pick).state
claim_keeps k p w agent pick h = go (is_idle (slice_get w.agents agent)) w.paused (claimed w.time p.settings.lease pick w.bucket) refl
  where
    go : (idle paused : Bool) (o : Option Lease) → claimed w.time p.settings.lease pick w.bucket ≡ o → Sound p (cond idle (cond paused (moved (Ok Paused) w) (claim_with p.settings w agent pick o)) (moved (Ok Nothing) w)).state
    go false paused o e = h
    go true true o e = h
    go true false None e = h
    go true false (Some lease) e = sound_held p w (after_claim w.time p.settings.lease pick w.bucket) _ (agents_claim k p.settings.agents w.time w.uids p.settings.lease w.bucket w.agents w.jobs agent pick lease (lease_forward p) e h.agents) h
