-- What each step may touch.
use Rattle.std.specs.Prelude.{Bool, true, false, cond, Option, Some, None, Err, slice_get, refl}
use Rattle.std.proofs.Common.{subst}
use Rattle.fb_bytes.specs.Options.{◌>>=◌}
use Rattle.workload_text.specs.declared.Settings.{Settings}
use Rattle.workload_text.specs.declared.Command.{Command}
use Rattle.workload_text.specs.declared.Command.TheVariants as commands
use Rattle.workload_text.specs.declared.Workload.{Workload}
use Rattle.client_core.specs.Clients.{begun_client}
use Rattle.cluster_core.specs.declared.event.Event.{Event}
use Rattle.cluster_core.specs.declared.event.Event.TheVariants as events
use Rattle.cluster_core.specs.declared.event.StepFault.TheVariants.{NoMemory}
use Rattle.cluster_core.specs.Agents.{memory_at}
use Rattle.cluster_core.specs.Jobs.{newest, on_backup}
use Rattle.cluster_core.specs.State.{State, client_at}
use Rattle.cluster_core.specs.Moves.{Luck, is_starved, Moved, moved}
use Rattle.cluster_core.specs.commands.Dump.{dump_piece}
use Rattle.cluster_core.specs.commands.Cut.{cut_log}
use Rattle.cluster_core.specs.commands.Seal.{seal_job}
use Rattle.cluster_core.specs.commands.Abort.{abort_job}
use Rattle.cluster_core.specs.Operator.{command_gives, operator_with}
use Rattle.cluster_core.specs.Step.{event_gives, step}
use Rattle.cluster_core.specs.Footprints.{reach, Footprint, FootprintLaw}
use Rattle.cluster_core.proofs.Touching.{Touches, same, gone}
use Rattle.cluster_core.proofs.commands.Dump.{dump_touches}
use Rattle.cluster_core.proofs.commands.Cut.{cut_touches}
use Rattle.cluster_core.proofs.commands.Seal.{seal_touches}
use Rattle.cluster_core.proofs.commands.Abort.{abort_touches}
use Rattle.cluster_core.proofs.commands.Jobs.{job_touches, backup_touches}
use Rattle.cluster_core.proofs.commands.Open.{open_touches}
use Rattle.cluster_core.proofs.commands.Pause.{pause_touches}
use Rattle.cluster_core.proofs.events.Begin.{begin_touches}
use Rattle.cluster_core.proofs.events.Commit.{commit_touches}
use Rattle.cluster_core.proofs.events.Tick.{tick_touches}
use Rattle.cluster_core.proofs.events.Claim.{claim_touches}
use Rattle.cluster_core.proofs.events.Extend.{extend_touches}
use Rattle.cluster_core.proofs.events.Die.{die_touches}

command_touches : (s : Settings) (w : State) (luck : Luck) (command : Command) → Touches s.pace w (command_gives s w luck command)
command_touches s w luck (commands.Open tag side container ranges) = open_touches s w tag side container ranges luck
command_touches s w luck (commands.Dump tag piece) = job_touches s.pace w tag (on_backup (dump_piece s w piece luck)) (newest tag w.jobs) refl (λ found at. backup_touches s.pace w (dump_piece s w piece luck) found at (λ x a. dump_touches s w x piece luck _ _ a))
command_touches s w luck (commands.Cut tag) = job_touches s.pace w tag (on_backup (cut_log s w luck)) (newest tag w.jobs) refl (λ found at. backup_touches s.pace w (cut_log s w luck) found at (λ x a. cut_touches s w x luck a))
command_touches s w luck (commands.Seal tag) = job_touches s.pace w tag (on_backup (seal_job w luck)) (newest tag w.jobs) refl (λ found at. backup_touches s.pace w (seal_job w luck) found at (λ x a. seal_touches s.pace w x luck _ a))
command_touches s w luck (commands.Abort tag) = job_touches s.pace w tag (abort_job w) (newest tag w.jobs) refl (λ found at. abort_touches s.pace w found at)
command_touches s w luck (commands.Status tag) = gone s.pace w _
command_touches s w luck commands.Pause = pause_touches s.pace w true
command_touches s w luck commands.Resume = pause_touches s.pace w false
command_touches s w luck command = same s.pace w _

operator_touches : (s : Settings) (w : State) (luck : Luck) (o : Option Command) → Touches s.pace w (operator_with s w luck o)
operator_touches s w luck None = same s.pace w _
operator_touches s w luck (Some command) = command_touches s w luck command

event_touches : (p : Workload) (w : State) (luck : Luck) (event : Event) → Touches (reach p.settings.pace event) w (event_gives p w luck event)
event_touches p w luck (events.Begin n) = begin_touches p.settings.pace w n (client_at w.clients n >>= begun_client w.time)
event_touches p w luck (events.Commit n) = commit_touches p.settings w n (client_at w.clients n)
event_touches p w luck (events.Tick n) = tick_touches w n
event_touches p w luck (events.Claim agent pick) = claim_touches p.settings w agent pick
event_touches p w luck (events.Extend agent) = extend_touches p.settings w agent (memory_at w.agents agent)
event_touches p w luck (events.Die agent) = die_touches p.settings.pace w agent
event_touches p w luck events.Command = operator_touches p.settings w luck (slice_get p.operator w.place)

luck_touches : (p : Workload) (w : State) (event : Event) (luck : Luck) → Touches (reach p.settings.pace event) w (step p w event luck)
luck_touches p w event luck = go (is_starved luck)
  where
    go : (b : Bool) → Touches (reach p.settings.pace event) w (cond b (moved (Err NoMemory) w) (event_gives p w luck event))
    go true = same (reach p.settings.pace event) w _
    go false = event_touches p w luck event

pub step_touches : FootprintLaw
step_touches p old new event answer s =
    subst (λ (m : Moved). Footprint (reach p.settings.pace event) old m.answer m.state) s.gives (luck_touches p old event s.luck)
