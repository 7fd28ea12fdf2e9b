-- One step of the machine, and its runs.
use Rattle.std.specs.Prelude.{◌≡◌, List, [], ◌∷◌, Result, Err, slice_get}
use Rattle.std.specs.Prelude.{if◌then◌else◌}
use Rattle.workload_text.specs.declared.Workload.{Workload}
use Rattle.cluster_core.specs.declared.event.Event.{Event}
use Rattle.cluster_core.specs.declared.event.Event.TheVariants.{Begin, Commit, Tick, Claim, Extend}
use Rattle.cluster_core.specs.declared.event.Event.TheVariants.{Die}
use Rattle.cluster_core.specs.declared.event.Event.TheVariants as events
use Rattle.cluster_core.specs.declared.event.Answer.{Answer}
use Rattle.cluster_core.specs.declared.event.StepFault.{StepFault}
use Rattle.cluster_core.specs.declared.event.StepFault.TheVariants.{NoMemory}
use Rattle.cluster_core.specs.State.{State}
use Rattle.cluster_core.specs.Moves.{Luck, is_starved, Moved, moved}
use Rattle.cluster_core.specs.Operator.{operator_with}
use Rattle.cluster_core.specs.events.Begin.{begin}
use Rattle.cluster_core.specs.events.Claim.{claim}
use Rattle.cluster_core.specs.events.Commit.{commit}
use Rattle.cluster_core.specs.events.Die.{die}
use Rattle.cluster_core.specs.events.Extend.{extend}
use Rattle.cluster_core.specs.events.Tick.{tick}

-- The operator's next command, where one is left.
abbrev pub operate : Workload → State → Luck → Moved
operate workload state luck =
    operator_with workload.settings state luck (slice_get workload.operator state.place)

-- what an event gives where memory suffices for it
abbrev pub event_gives : Workload → State → Luck → Event → Moved
event_gives workload state luck (Begin client) = begin state client
event_gives workload state luck (Commit client) = commit workload.settings state client
event_gives workload state luck (Tick n) = tick state n
event_gives workload state luck (Claim agent pick) = claim workload.settings state agent pick
event_gives workload state luck (Extend agent) = extend workload.settings state agent
event_gives workload state luck (Die agent) = die state agent
event_gives workload state luck events.Command = operate workload state luck

-- A step for which memory is short is refused, and changes nothing.
abbrev pub step : Workload → State → Event → Luck → Moved
step workload state event luck =
    if is_starved luck then moved (Err NoMemory) state else event_gives workload state luck event

-- From old, the machine may give this answer to the event and go on to new.
pub record Step (workload : Workload) (old : State) (event : Event)
    (answer : Result Answer StepFault) (new : State) : Type 0 where
  pub luck : Luck
  pub gives : step workload old event luck ≡ moved answer new

-- an event and what it was answered
pub record Turn : Type 0 where
  pub event : Event
  pub answer : Result Answer StepFault

-- From old, a run may take these turns and end in new.
abbrev pub Run : Workload → State → List Turn → State → Type 0
Run workload old [] new = old ≡ new
Run workload old (turn ∷ turns) new =
    (middle : State) × Step workload old turn.event turn.answer middle
    × Run workload middle turns new
