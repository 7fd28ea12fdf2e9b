-- What a move from a state may touch.
use Rattle.std.specs.Prelude.{ℕ, Result, Ok, refl}
use Rattle.std.proofs.Common.{arith, inl}
use Rattle.cluster_core.specs.declared.event.Answer.{Answer}
use Rattle.cluster_core.specs.declared.event.StepFault.{StepFault}
use Rattle.cluster_core.specs.State.{State}
use Rattle.cluster_core.specs.Moves.{Moved, moved}
use Rattle.cluster_core.specs.commands.Shared.{gone_on}
use Rattle.cluster_core.specs.Footprints.{Footprint}

-- what a move from a state may touch
abbrev pub Touches : ℕ → State → Moved → Type 0
Touches pace w m = Footprint pace w m.answer m.state

pub same : (pace : ℕ) (w : State) (answer : Result Answer StepFault) → Touches pace w (moved answer w)
same pace w answer = record { starved = λ e. refl; since = omega arith; upto = omega arith; src = inl refl; dst = inl refl; sides = inl refl; jobs = inl refl; files = inl refl }

pub gone : (pace : ℕ) (w : State) (answer : Answer) → Touches pace w (moved (Ok answer) (gone_on w))
gone pace w answer = record { starved = λ e. cc; since = omega arith; upto = omega arith; src = inl refl; dst = inl refl; sides = inl refl; jobs = inl refl; files = inl refl }
