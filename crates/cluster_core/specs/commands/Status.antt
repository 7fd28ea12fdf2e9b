-- The command status: the state of a job is told.
use Rattle.std.specs.Prelude.{Option}
use Rattle.std.specs.Prelude.{Ok, option_map}
use Rattle.cluster_core.specs.declared.event.Answer.TheVariants.{State}
use Rattle.cluster_core.specs.Jobs.{Found, state_of_job}
use Rattle.cluster_core.specs.State as machine
use Rattle.cluster_core.specs.Moves.{Moved, moved}
use Rattle.cluster_core.specs.commands.Shared.{gone_on}

abbrev pub tell_state : machine.State → Option Found → Moved
tell_state state found =
    moved (Ok (State (option_map (λ found. state_of_job found.job) found))) (gone_on state)
