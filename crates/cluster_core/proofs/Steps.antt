-- Each step keeps what is sound.
use Rattle.std.specs.Prelude.{◌≡◌, ℕ, zero, suc, Bool, true, false, List, [], ◌∷◌, Option, Some, None, Err, slice_get, refl}
use Rattle.std.specs.List.{AllByRecursion}
use Rattle.std.proofs.Common.{ap, subst, cond}
use Rattle.workload_text.specs.declared.Command.{Command}
use Rattle.workload_text.specs.declared.Command.TheVariants as commands
use Rattle.workload_text.specs.declared.Workload.{Workload}
use Rattle.workload_text.specs.Commands.{IsCommand}
use Rattle.cluster_core.specs.declared.event.Event.{Event}
use Rattle.cluster_core.specs.declared.event.Event.TheVariants.{Begin, Commit, Tick, Claim, Extend, Die}
use Rattle.cluster_core.specs.declared.event.Event.TheVariants as events
use Rattle.cluster_core.specs.declared.event.StepFault.TheVariants.{NoMemory}
use Rattle.cluster_core.specs.Agents.{memory_at}
use Rattle.cluster_core.specs.Jobs.{newest, on_backup}
use Rattle.cluster_core.specs.State.{State, client_at}
use Rattle.cluster_core.specs.Moves.{Luck, is_starved, Moved, moved}
use Rattle.cluster_core.specs.commands.Dump.{dump_piece}
use Rattle.cluster_core.specs.commands.Cut.{cut_log}
use Rattle.cluster_core.specs.commands.Seal.{seal_job}
use Rattle.cluster_core.specs.commands.Abort.{abort_job}
use Rattle.cluster_core.specs.Operator.{command_gives, operator_with}
use Rattle.cluster_core.specs.Step.{event_gives, step}
use Rattle.cluster_core.specs.Sound.{Sound}
use Rattle.cluster_core.specs.Laws.{StepLaw, RunLaw}
use Rattle.cluster_core.proofs.Known.{Known}
use Rattle.cluster_core.proofs.Frames.{sound_gone}
use Rattle.cluster_core.proofs.commands.Dump.{dump_keeps}
use Rattle.cluster_core.proofs.commands.Cut.{cut_keeps}
use Rattle.cluster_core.proofs.commands.Seal.{seal_keeps}
use Rattle.cluster_core.proofs.commands.Abort.{abort_keeps}
use Rattle.cluster_core.proofs.commands.Open.{open_keeps}
use Rattle.cluster_core.proofs.commands.Pause.{pause_keeps}
use Rattle.cluster_core.proofs.events.Begin.{begin_of_keeps}
use Rattle.cluster_core.proofs.events.Commit.{commit_keeps}
use Rattle.cluster_core.proofs.events.Tick.{tick_keeps}
use Rattle.cluster_core.proofs.events.Claim.{claim_keeps}
use Rattle.cluster_core.proofs.events.Extend.{extend_keeps}
use Rattle.cluster_core.proofs.events.Die.{die_keeps}
use Rattle.cluster_core.proofs.commands.Jobs.{job_keeps, backup_keeps}

command_keeps : (k : Known) (p : Workload) (w : State) (luck : Luck) (command : Command) → IsCommand p.settings.block command → Sound p w → Sound p (command_gives p.settings w luck command).state
command_keeps k p w luck (commands.Open tag side container ranges) c h = open_keeps k p w tag side container ranges luck h c
command_keeps k p w luck (commands.Dump tag piece) c h = job_keeps p w tag (on_backup (dump_piece p.settings w piece luck)) (newest tag w.jobs) refl h (λ found at r. backup_keeps p w (dump_piece p.settings w piece luck) found at r (λ x a s. dump_keeps k p w piece luck x c.1 h a))
command_keeps k p w luck (commands.Cut tag) c h = job_keeps p w tag (on_backup (cut_log p.settings w luck)) (newest tag w.jobs) refl h (λ found at r. backup_keeps p w (cut_log p.settings w luck) found at r (λ x a s. cut_keeps k p w luck x h a s))
command_keeps k p w luck (commands.Seal tag) c h = job_keeps p w tag (on_backup (seal_job w luck)) (newest tag w.jobs) refl h (λ found at r. backup_keeps p w (seal_job w luck) found at r (λ x a s. seal_keeps k p w luck x h a))
command_keeps k p w luck (commands.Abort tag) c h = job_keeps p w tag (abort_job w) (newest tag w.jobs) refl h (λ found at r. abort_keeps k p w found h at)
command_keeps k p w luck (commands.Status tag) c h = sound_gone p w h
command_keeps k p w luck commands.Pause c h = pause_keeps p w true h
command_keeps k p w luck commands.Resume c h = pause_keeps p w false h
command_keeps k p w luck command c h = h

all_get : {X : Type 0} (P : X → Type 0) (xs : List X) (n : ℕ) (x : X) → AllByRecursion P xs → slice_get xs n ≡ Some x → P x
all_get P [] zero x a e = cc
all_get P [] (suc n) x a e = cc
all_get P (y ∷ ys) zero x a e = let same : y ≡ x = cc in subst P same a.0
all_get P (y ∷ ys) (suc n) x a e = all_get P ys n x a.1 e

operator_keeps : (k : Known) (p : Workload) (w : State) (luck : Luck) (o : Option Command) → slice_get p.operator w.place ≡ o → Sound p w → Sound p (operator_with p.settings w luck o).state
operator_keeps k p w luck None e h = h
operator_keeps k p w luck (Some command) e h = command_keeps k p w luck command (all_get (IsCommand p.settings.block) p.operator w.place command p.operator_allowed e) h

pub event_keeps : (k : Known) (p : Workload) (w : State) (luck : Luck) (event : Event) → Sound p w → Sound p (event_gives p w luck event).state
event_keeps k p w luck (Begin n) h = begin_of_keeps p w n (client_at w.clients n) refl h
event_keeps k p w luck (Commit n) h = commit_keeps k p w n (client_at w.clients n) refl h
event_keeps k p w luck (Tick n) h = tick_keeps k p w n h
event_keeps k p w luck (Claim agent pick) h = claim_keeps k p w agent pick h
event_keeps k p w luck (Extend agent) h = extend_keeps k p w agent (memory_at w.agents agent) refl h
event_keeps k p w luck (Die agent) h = die_keeps k p w agent h
event_keeps k p w luck events.Command h = operator_keeps k p w luck (slice_get p.operator w.place) refl h

pub luck_keeps : (k : Known) (p : Workload) (w : State) (event : Event) (luck : Luck) → Sound p w → Sound p (step p w event luck).state
luck_keeps k p w event luck h = go (is_starved luck)
  where
    go : (b : Bool) → Sound p (cond b (moved (Err NoMemory) w) (event_gives p w luck event)).state
    go true = h
    go false = event_keeps k p w luck event h

pub step_keeps : Known → StepLaw
step_keeps k p old new event answer s h = subst (Sound p) (ap (λ (m : Moved). m.state) s.gives) (luck_keeps k p old event s.luck h)

pub run_keeps : Known → RunLaw
run_keeps k p old new [] r h = subst (Sound p) r h
run_keeps k p old new (turn ∷ turns) r h = run_keeps k p r.0 new turns r.2 (step_keeps k p old r.0 turn.event turn.answer r.1 h)
