-- The event begin: a client's next transaction fixes the version that its reads see.
use Rattle.std.specs.Prelude.{ℕ, Option, Some, None, Ok}
use Rattle.fb_bytes.specs.Options.{◌>>=◌}
use Rattle.client_core.specs.Clients.{ClientState, begun_client}
use Rattle.cluster_core.specs.declared.event.Answer.TheVariants.{Nothing, Read}
use Rattle.cluster_core.specs.State.{State, client_at, put_client}
use Rattle.cluster_core.specs.Moves.{Moved, moved}

abbrev pub begin_with : State → ℕ → Option ClientState → Moved
begin_with state number None = moved (Ok Nothing) state
begin_with state number (Some client) =
    moved (Ok (Read state.time)) (record state { clients = put_client state.clients number client })

-- A transaction is begun where the client is there, has one left and has begun none.
abbrev pub begin : State → ℕ → Moved
begin state number =
    begin_with state number (client_at state.clients number >>= begun_client state.time)
