-- The commands pause and resume: whether agents claim tasks.
use Rattle.std.specs.Prelude.{Bool}
use Rattle.cluster_core.specs.State as machine
use Rattle.cluster_core.specs.Moves.{Moved}
use Rattle.cluster_core.specs.commands.Shared.{done}

abbrev pub set_paused : machine.State → Bool → Moved
set_paused state paused = done (record state { paused = paused })
