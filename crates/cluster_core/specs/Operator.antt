-- What the operator's next command gives.
use Rattle.std.specs.Prelude.{true, false, Option, Some, None, Ok}
use Rattle.workload_text.specs.declared.Settings.{Settings}
use Rattle.workload_text.specs.declared.Command.{Command}
use Rattle.workload_text.specs.declared.Command.TheVariants as commands
use Rattle.cluster_core.specs.declared.event.Answer.TheVariants.{Nothing}
use Rattle.cluster_core.specs.Jobs.{newest, on_backup}
use Rattle.cluster_core.specs.State as machine
use Rattle.cluster_core.specs.Moves.{Luck, Moved, moved}
use Rattle.cluster_core.specs.commands.Abort.{abort_job}
use Rattle.cluster_core.specs.commands.Cut.{cut_log}
use Rattle.cluster_core.specs.commands.Dump.{dump_piece}
use Rattle.cluster_core.specs.commands.Open.{open_job}
use Rattle.cluster_core.specs.commands.Pause.{set_paused}
use Rattle.cluster_core.specs.commands.Seal.{seal_job}
use Rattle.cluster_core.specs.commands.Shared.{on_job}
use Rattle.cluster_core.specs.commands.Status.{tell_state}

-- What a command gives. One that isn't served yet gives nothing.
abbrev pub command_gives : Settings → machine.State → Luck → Command → Moved
command_gives settings state luck (commands.Open tag side container ranges) =
    open_job settings state tag side container ranges luck
command_gives settings state luck (commands.Dump tag piece) =
    on_job state tag (on_backup (dump_piece settings state piece luck))
command_gives settings state luck (commands.Cut tag) =
    on_job state tag (on_backup (cut_log settings state luck))
command_gives settings state luck (commands.Seal tag) =
    on_job state tag (on_backup (seal_job state luck))
command_gives settings state luck (commands.Abort tag) = on_job state tag (abort_job state)
command_gives settings state luck (commands.Status tag) = tell_state state (newest tag state.jobs)
command_gives settings state luck commands.Pause = set_paused state true
command_gives settings state luck commands.Resume = set_paused state false
command_gives settings state luck command = moved (Ok Nothing) state

abbrev pub operator_with : Settings → machine.State → Luck → Option Command → Moved
operator_with settings state luck None = moved (Ok Nothing) state
operator_with settings state luck (Some command) = command_gives settings state luck command
