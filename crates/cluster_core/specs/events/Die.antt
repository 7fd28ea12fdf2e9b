-- The event die: an agent forgets what it remembers. Its task stays leased.
use Rattle.std.specs.Prelude.{ℕ, length, None, Ok, nat_lt, slice_set, if◌then◌else◌}
use Rattle.cluster_core.specs.declared.event.Answer.TheVariants.{Nothing, Dead}
use Rattle.cluster_core.specs.State.{State}
use Rattle.cluster_core.specs.Moves.{Moved, moved}

abbrev pub die : State → ℕ → Moved
die state agent =
    if nat_lt agent (length state.agents)
    then moved (Ok Dead) (record state { agents = slice_set state.agents agent None })
    else moved (Ok Nothing) state
