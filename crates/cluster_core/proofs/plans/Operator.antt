-- Which plans there are while the operator has a command left, and what a step comes to.
use Rattle.std.specs.Prelude.{◌≡◌, ℕ, ◌+◌, ◌<◌, Bool, List, length, Option, Some, None, Result, Ok, Err, slice_get, refl}
use Rattle.std.proofs.Common.{ap, sym, ◌∙◌, subst}
use Rattle.fb_bytes.specs.Bytes.{Bytes}
use Rattle.fb_bytes.specs.declared.KeyRange.{KeyRange}
use Rattle.versioned_kv.specs.declared.Versions.{Versions}
use Rattle.workload_text.specs.declared.Side.{Side}
use Rattle.workload_text.specs.declared.Command.{Command}
use Rattle.workload_text.specs.declared.Workload.{Workload}
use Rattle.database.specs.Commits.{Database}
use Rattle.cluster_core.specs.declared.event.Answer.{Answer}
use Rattle.cluster_core.specs.declared.event.Answer.TheVariants as answers
use Rattle.cluster_core.specs.declared.event.StepFault.{StepFault}
use Rattle.cluster_core.specs.declared.event.StepFault.TheVariants.{NoMemory}
use Rattle.task_kinds.specs.declared.JobState.{JobState}
use Rattle.cluster_core.specs.declared.refusal.Refusal.{Refusal}
use Rattle.cluster_core.specs.declared.event.Event.{Event}
use Rattle.cluster_core.specs.declared.event.Event.TheVariants as events
use Rattle.cluster_core.specs.inner.Filed.{changed}
use Rattle.cluster_core.specs.inner.Plans.{files as files_put}
use Rattle.cluster_core.specs.declared.plan.Filing.{Filing}
use Rattle.cluster_core.specs.declared.plan.Plan.TheVariants as plans
use Rattle.cluster_core.specs.State.{State, with_job}
use Rattle.cluster_core.specs.Moves.{Luck, Fine, FailsOld, Starved, Moved, moved, Silent}
use Rattle.cluster_core.specs.Operator.{operator_with}
use Rattle.cluster_core.specs.Step.{operate, Step}
use Rattle.cluster_core.specs.inner.Plans.{aborts, IsPlan, IsSafe}
use Rattle.cluster_core.specs.World.{Seen}
use Rattle.cluster_core.specs.inner.World.{CommitSteps, AgentSteps, IsWorld}
use Rattle.cluster_core.proofs.commands.Open.{past_end}
use Rattle.cluster_core.proofs.Frames.{sound_gone}
use Rattle.cluster_core.proofs.plans.Put.{ticket_left}

pub gone_world : (p : Workload) (src dst : Database) (v : Versions) (w : State) (place : ℕ) → place ≡ w.place + 1 → IsWorld p src dst v w → IsWorld p src dst v (record w { place = place })
gone_world p src dst v w place e h =
    subst (λ (n : ℕ). IsWorld p src dst v (record w { place = n })) (sym e)
    (record { src_block = h.src_block; dst_block = h.dst_block; pace = h.pace; src_oldest = h.src_oldest; dst_oldest = h.dst_oldest; src_logs = h.src_logs; dst_logs = h.dst_logs; sound = sound_gone p w h.sound })

at_place : (p : Workload) (w : State) (P : Type 0) (o : Option Command) → slice_get p.operator w.place ≡ o → (o ≡ None → P) → ((command : Command) → slice_get p.operator w.place ≡ Some command → P) → P
at_place p w P None e none some = none refl
at_place p w P (Some command) e none some = some command e

nothing_left : (p : Workload) (w : State) (luck : Luck) → slice_get p.operator w.place ≡ None → operate p w luck ≡ moved (Ok answers.Nothing) w
nothing_left p w luck e = ap (operator_with p.settings w luck) e

has_room : (p : Workload) (w : State) → ((slice_get p.operator w.place ≡ None) → ⊥) → w.place < length p.operator
has_room p w d = at_place p w (w.place < length p.operator) (slice_get p.operator w.place) refl (λ e. absurd (d e)) (λ command e. past_end p.operator w.place command e)

pub refuse_room : (p : Workload) (w : State) (refusal : Refusal) → IsPlan p w (plans.Refuse refusal) → w.place < length p.operator
refuse_room p w refusal plan = has_room p w (λ e. let q = ap (λ (m : Moved). m.answer) (sym (nothing_left p w FailsOld e) ∙ plan FailsOld) in cc)

pub tell_room : (p : Workload) (w : State) (state : Option JobState) → IsPlan p w (plans.Tell state) → w.place < length p.operator
tell_room p w state plan = has_room p w (λ e. let q = ap (λ (m : Moved). m.answer) (sym (nothing_left p w FailsOld e) ∙ plan FailsOld) in cc)

pub pause_room : (p : Workload) (w : State) (paused : Bool) → IsPlan p w (plans.Pause paused) → w.place < length p.operator
pause_room p w paused plan = has_room p w (λ e. let q = ap (λ (m : Moved). m.answer) (sym (nothing_left p w FailsOld e) ∙ plan FailsOld) in cc)

pub open_room : (p : Workload) (w : State) (tag : Bytes) (side : Side) (container : Bytes) (ranges : List KeyRange) → IsPlan p w (plans.Open tag side container ranges) → w.place < length p.operator
open_room p w tag side container ranges plan = has_room p w (λ e. let q = ap (λ (m : Moved). m.answer) (sym (nothing_left p w FailsOld e) ∙ plan FailsOld) in cc)

pub abort_room : (p : Workload) (w : State) (place : ℕ) → IsPlan p w (plans.Abort place) → IsSafe w (plans.Abort place) → w.place < length p.operator
abort_room p w place plan safe = has_room p w (λ e. let q = ap (λ (m : Moved). m.answer) (sym (nothing_left p w FailsOld e) ∙ plan FailsOld ∙ ap (aborts w place) safe.1) in cc)

pub put_room : (p : Workload) (w : State) (filing : Filing) → IsPlan p w (plans.Put filing) → IsSafe w (plans.Put filing) → w.place < length p.operator
put_room p w filing plan safe = has_room p w (λ e. let q = ap (λ (m : Moved). m.answer) (sym (nothing_left p w FailsOld e) ∙ plan FailsOld ∙ ap (files_put w filing FailsOld) safe.at ∙ ticket_left w filing.whole filing.bytes (with_job filing.place (changed filing.change safe.job) w) FailsOld safe.tickets) in cc)

pub made : (p : Workload) (old : State) (event e : Event) (answer a : Result Answer StepFault) (new n : Seen) → event ≡ e → answer ≡ a → new ≡ n → Step p old e a n.state → Step p old event answer new.state
made p old event e answer a new n x y z s =
    subst (λ (t : Event). Step p old t answer new.state) (sym x)
    (subst (λ (t : Result Answer StepFault). Step p old e t new.state) (sym y)
    (subst (λ (t : Seen). Step p old e a t.state) (sym z) s))

pub commit_made : (p : Workload) (old : State) (number : ℕ) (result : Result Answer StepFault) (new : State) → CommitSteps p.settings old number result new → Step p old (events.Commit number) result new
commit_made p old number (Ok answer) new h = record { luck = Fine Silent; gives = h }
commit_made p old number (Err fault) new h = record { luck = Starved; gives = ap (moved (Err NoMemory)) (sym h.1) ∙ ap (λ (f : StepFault). moved (Err f) new) (sym h.0) }

pub agent_made : (p : Workload) (old : State) (event : Event) (result : Result Answer StepFault) (new : State) → AgentSteps p old event result new → Step p old event result new
agent_made p old event (Ok answer) new h = record { luck = Fine Silent; gives = h }
agent_made p old event (Err fault) new h = record { luck = Starved; gives = ap (moved (Err NoMemory)) (sym h.1) ∙ ap (λ (f : StepFault). moved (Err f) new) (sym h.0) }
