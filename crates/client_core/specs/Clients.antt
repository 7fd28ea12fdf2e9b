-- A client as a machine: what a begin and a commit do to it and to its database.
use Rattle.std.specs.Prelude.{ℕ, ◌+◌, List, [], ◌∷◌, ◌++◌, Option, Some, None, slice_get}
use Rattle.std.specs.Prelude.{if◌then◌else◌}
use Rattle.fb_bytes.specs.Options.{◌>>=◌}
use Rattle.mutations.specs.declared.Entry.{Entry}
use Rattle.mutations.specs.declared.Who.{Who}
use Rattle.mutations.specs.declared.Who.TheVariants as who
use Rattle.mutations.specs.declared.TxOp.{TxOp}
use Rattle.mutations.specs.Transactions.{writes_of}
use Rattle.workload_text.specs.declared.ClientScript.{ClientScript}
use Rattle.database.specs.Commits.{Scene, commit_answer, history_after, time_after}
use Rattle.database.specs.Reads.{reads_at}
use Rattle.client_core.specs.declared.outcome.Outcome.{Outcome}
use Rattle.client_core.specs.Ends.{end_of, version_of, goes_again}

-- what contracts see of a client
pub record ClientState : Type 0 where
  pub script : ClientScript
  -- how often a transaction is tried
  pub tries : ℕ
  -- how many of its transactions have ended
  pub place : ℕ
  -- how often the next one was tried
  pub tried : ℕ
  -- the read version of the transaction that is begun
  pub begun : Option ℕ
  pub outcomes : List Outcome

-- a client at the start of its script
abbrev pub new_client : ℕ → ClientScript → ClientState
new_client tries script =
    record {
      script = script;
      tries = tries;
      place = 0;
      tried = 0;
      begun = None;
      outcomes = [];
    }

-- the operations of the transaction at the client's place, where its script hasn't ended
abbrev pub next_ops : ClientState → Option (List TxOp)
next_ops client = slice_get client.script.txns client.place

-- A begin fixes the read version, where a transaction is left and none is begun.
abbrev pub begun_at : ℕ → ClientState → Option ℕ → Option (List TxOp) → Option ClientState
begun_at time client None (Some ops) = Some (record client { begun = Some time })
begun_at time client None None = None
begun_at time client (Some read) ops = None

abbrev pub begun_client : ℕ → ClientState → Option ClientState
begun_client time client = begun_at time client client.begun (next_ops client)

-- who an entry of the client's present transaction is by
abbrev pub who_of : ClientState → Who
who_of client = who.Client client.script.number (client.place + 1)

-- what a commit gives: the try's outcome, the client after it, and its database's history and the
-- newest version
pub record Try : Type 0 where
  pub outcome : Outcome
  pub client : ClientState
  pub history : List Entry
  pub time : ℕ

-- the client after a try: at the same transaction where that is tried again, or else at the next
abbrev pub after_try : ClientState → Outcome → ClientState
after_try client outcome =
    record client {
      place = if goes_again client.tries outcome then client.place else client.place + 1;
      tried = if goes_again client.tries outcome then client.tried + 1 else 0;
      begun = None;
      outcomes = client.outcomes ++ outcome ∷ [];
    }

-- what became of a try of these operations
abbrev pub outcome_of : Scene → ClientState → ℕ → List TxOp → Outcome
outcome_of scene client read ops =
    record {
      place = client.place + 1;
      attempt = client.tried + 1;
      read = read;
      end = end_of (commit_answer scene read ops) (reads_at scene.block scene.history read ops);
    }

abbrev pub try_with : Scene → ClientState → List TxOp → Outcome → Try
try_with scene client ops outcome = record {
  outcome = outcome;
  client = after_try client outcome;
  history =
      history_after (version_of outcome.end) (who_of client) (writes_of ops) scene.history;
  time = time_after (version_of outcome.end) scene.time;
}

-- the try to commit these operations
abbrev pub try_of : Scene → ClientState → ℕ → List TxOp → Try
try_of scene client read ops = try_with scene client ops (outcome_of scene client read ops)

-- a try of the transaction that is begun, if one is
abbrev pub commit_try : Scene → ClientState → Option Try
commit_try scene client =
    client.begun >>= λ read. next_ops client >>= λ ops. Some (try_of scene client read ops)

-- what a client has to tell: its script, and what became of its tries
pub record Told : Type 0 where
  pub script : ClientScript
  pub outcomes : List Outcome

abbrev pub told_of : ClientState → Told
told_of client = record { script = client.script; outcomes = client.outcomes }
