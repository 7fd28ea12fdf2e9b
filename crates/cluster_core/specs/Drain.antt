-- What a drain does: it makes the operator's steps, one after the other.
use Rattle.std.specs.Prelude.{◌≡◌, ℕ, ◌≤◌, Bool, true, false, nat_le, List, [], ◌∷◌, ◌++◌, length}
use Rattle.std.specs.Prelude.{Result, Ok, Err}
use Rattle.std.specs.List.{AllByRecursion}
use Rattle.workload_text.specs.declared.Workload.{Workload}
use Rattle.cluster_core.specs.declared.drain.DrainFault.{DrainFault}
use Rattle.cluster_core.specs.declared.drain.DrainFault.TheVariants as drains
use Rattle.cluster_core.specs.declared.event.Answer.{Answer}
use Rattle.cluster_core.specs.declared.event.Event.TheVariants as events
use Rattle.cluster_core.specs.declared.event.StepFault.{StepFault}
use Rattle.cluster_core.specs.State.{State}
use Rattle.cluster_core.specs.Step.{Step, Turn}

-- the operator's script has ended
abbrev pub is_over : Workload → State → Bool
is_over workload state = nat_le (length workload.operator) state.place

-- The turn that a drain makes in this state: a step of the operator's next command, where one is
-- left.
pub record IsNext (workload : Workload) (old : State) (turn : Turn) : Type 0 where
  pub left : is_over workload old ≡ false
  pub event : turn.event ≡ events.Command

-- From old, a drain may make these turns, and come to new.
abbrev pub DrainRun : Workload → State → List Turn → State → Type 0
DrainRun workload old [] new = old ≡ new
DrainRun workload old (turn ∷ turns) new =
    IsNext workload old turn
    × (middle : State)
    × Step workload old turn.event turn.answer middle
    × DrainRun workload middle turns new

abbrev pub IsAnswered : Result Answer StepFault → Type 0
IsAnswered (Ok answer) = Unit {0}
IsAnswered (Err fault) = ⊥

-- the turns are so many, and none was refused
pub record AreAnswered (count : ℕ) (turns : List Turn) : Type 0 where
  pub count_is : length turns ≡ count
  pub each : AllByRecursion (λ (turn : Turn). IsAnswered turn.answer) turns

-- the last of the turns was refused so, and none before it
pub record IsRefused (fault : StepFault) (turns : List Turn) : Type 0 where
  pub count : ℕ
  pub front : List Turn
  pub answered : AreAnswered count front
  pub last : turns ≡ front ++ record { event = events.Command; answer = Err fault } ∷ []

-- How a drain of at most so many turns ends: with the script, with its turns, or with a step that
-- was refused.
abbrev pub DrainEnds : Workload → ℕ → List Turn → Result ℕ DrainFault → State → Type 0
DrainEnds workload most turns (Ok steps) new =
    AreAnswered steps turns × (is_over workload new ≡ true)
DrainEnds workload most turns (Err (drains.TurnsSpent spent)) new =
    AreAnswered spent turns × (spent ≡ most) × (is_over workload new ≡ false)
DrainEnds workload most turns (Err (drains.Step fault)) new = IsRefused fault turns

-- From old, a drain of at most so many turns may make these, answer so and leave new.
pub record Drains
    (workload : Workload)
    (most : ℕ)
    (old : State)
    (turns : List Turn)
    (result : Result ℕ DrainFault)
    (new : State) : Type 0 where
  pub run : DrainRun workload old turns new
  pub few : length turns ≤ most
  pub ends : DrainEnds workload most turns result new

-- it makes some turns
pub record DrainGives
    (workload : Workload)
    (most : ℕ)
    (old : State)
    (result : Result ℕ DrainFault)
    (new : State) : Type 0 where
  pub turns : List Turn
  pub drains : Drains workload most old turns result new
