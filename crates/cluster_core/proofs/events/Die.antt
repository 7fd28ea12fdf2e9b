-- The event die.
use Rattle.std.specs.Prelude.{ℕ, Bool, true, false, cond, length, None, Ok, nat_lt, slice_set, refl}
use Rattle.std.proofs.Common.{arith, inl}
use Rattle.workload_text.specs.declared.Workload.{Workload}
use Rattle.cluster_core.specs.declared.event.Answer.TheVariants.{Nothing, Dead}
use Rattle.cluster_core.specs.State.{State}
use Rattle.cluster_core.specs.Moves.{moved}
use Rattle.cluster_core.specs.events.Die.{die}
use Rattle.cluster_core.specs.Sound.{Sound}
use Rattle.cluster_core.proofs.Frames.{sound_held}
use Rattle.cluster_core.proofs.Holding.{agents_forget}
use Rattle.cluster_core.proofs.Known.{Known}
use Rattle.cluster_core.proofs.Touching.{Touches, same}

pub die_touches : (pace : ℕ) (w : State) (agent : ℕ) → Touches pace w (die w agent)
die_touches pace w agent = go (nat_lt agent (length w.agents))
  where
    go : (b : Bool) → Touches pace w (cond b (moved (Ok Dead) (record w { agents = slice_set w.agents agent None })) (moved (Ok Nothing) w))
    go true = record { starved = λ e. cc; since = omega arith; upto = omega arith; src = inl refl; dst = inl refl; sides = inl refl; jobs = inl refl; files = inl refl }
    go false = same pace w _

pub die_keeps : (k : Known) (p : Workload) (w : State) (agent : ℕ) → Sound p w → Sound p (die w agent).state
die_keeps k p w agent h = go (nat_lt agent (length w.agents))
  where
    go : (b : Bool) → Sound p (cond b (moved (Ok Dead) (record w { agents = slice_set w.agents agent None })) (moved (Ok Nothing) w)).state
    go true = sound_held p w w.bucket (slice_set w.agents agent None) (agents_forget k p.settings.agents w.time w.uids w.bucket w.agents w.jobs agent h.agents) h
    go false = h
