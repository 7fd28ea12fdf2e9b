-- The event tick: time goes on.
use Rattle.std.specs.Prelude.{ℕ, ◌+◌, Ok, Err, nat_lt, if◌then◌else◌}
use Rattle.database.specs.Commits.{most_version}
use Rattle.cluster_core.specs.declared.event.Answer.TheVariants.{Version}
use Rattle.cluster_core.specs.declared.event.StepFault.TheVariants.{VersionsSpent}
use Rattle.cluster_core.specs.State.{State}
use Rattle.cluster_core.specs.Moves.{Moved, moved}

abbrev pub tick : State → ℕ → Moved
tick state n =
    if nat_lt most_version (state.time + n) then moved (Err (VersionsSpent state.time)) state
    else moved (Ok (Version (state.time + n))) (record state { time = state.time + n })
