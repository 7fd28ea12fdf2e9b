-- The event commit: a client tries to commit what it began.
use Rattle.std.specs.Prelude.{ℕ, Option, Some, None, Ok}
use Rattle.fb_bytes.specs.Options.{◌>>=◌}
use Rattle.workload_text.specs.declared.Settings.{Settings}
use Rattle.workload_text.specs.declared.Side.{Side}
use Rattle.database.specs.Commits.{Scene}
use Rattle.client_core.specs.Clients.{ClientState, Try, commit_try}
use Rattle.cluster_core.specs.declared.event.Answer.TheVariants.{Nothing, Outcome}
use Rattle.cluster_core.specs.Jobs.{logs_of}
use Rattle.cluster_core.specs.State.{State, history_on, with_history, client_at, put_client}
use Rattle.cluster_core.specs.Moves.{Moved, moved}

-- the state after a try of the client of that number
abbrev pub after : State → ℕ → Try → State
after state number try =
    record (with_history try.client.script.side try.history state)
    { time = try.time; clients = put_client state.clients number try.client }

abbrev pub commit_with : State → ℕ → Option Try → Moved
commit_with state number None = moved (Ok Nothing) state
commit_with state number (Some try) = moved (Ok (Outcome try.outcome)) (after state number try)

-- what an entry of a side's database is decided by
abbrev pub scene_on : Settings → State → Side → Scene
scene_on settings state side =
    record {
      block = settings.block;
      time = state.time;
      pace = settings.pace;
      logs = logs_of side state.jobs;
      history = history_on side state;
    }

-- a client's try in this state
abbrev pub try_in : Settings → State → ClientState → Option Try
try_in settings state client = commit_try (scene_on settings state client.script.side) client

-- A try is made where the client is there and has begun a transaction.
abbrev pub commit : Settings → State → ℕ → Moved
commit settings state number =
    commit_with state number (client_at state.clients number >>= try_in settings state)
