-- What every workload keeps: the rules and the limits of a text, but for the text's own length.
use Rattle.std.specs.Prelude.{ℕ, ◌+◌, Bool, true, false, not, ◌&&◌, List, [], ◌∷◌, map, length}
use Rattle.std.specs.Prelude.{nat_eq, nat_le, if◌then◌else◌}
use Rattle.std.specs.List.{list_all, list_any}
use Rattle.fb_bytes.specs.Keys.{is_backwards}
use Rattle.fb_bytes.specs.Limits.{most_number}
use Rattle.mutations.specs.declared.Mutation.{Mutation}
use Rattle.mutations.specs.declared.Mutation.TheVariants.{Set, ClearRange, Atomic}
use Rattle.mutations.specs.declared.TxOp.{TxOp}
use Rattle.mutations.specs.declared.TxOp.TheVariants.{Get, SnapshotGet, Scan, Write}
use Rattle.workload_text.specs.declared.agent_death.AgentDeath.{AgentDeath}
use Rattle.workload_text.specs.declared.agent_stall.AgentStall.{AgentStall}
use Rattle.workload_text.specs.declared.client_script.ClientScript.{ClientScript}
use Rattle.workload_text.specs.declared.schedule.ScheduleLine.{ScheduleLine}
use Rattle.workload_text.specs.declared.schedule.ScheduleLine.TheVariants as lines
use Rattle.workload_text.specs.Settings.{is_up_to}

-- ---- settings

-- a death of one of 64 agents, or of agent 0, after a turn from 1 on
abbrev pub is_death : AgentDeath → Bool
is_death death = nat_le death.agent 64 && is_up_to most_number death.turn

-- a stall of one of them, for at most 1,000,000 turns
abbrev pub is_stall : AgentStall → Bool
is_stall stall =
    nat_le stall.agent 64 && is_up_to most_number stall.turn && nat_le stall.turns 1000000

-- no number comes again
abbrev pub each_once : List ℕ → Bool
each_once [] = true
each_once (n ∷ ns) = not (list_any (nat_eq n) ns) && each_once ns

-- deaths that may be set: at most one of each agent
abbrev pub are_deaths : List AgentDeath → Bool
are_deaths deaths = list_all is_death deaths && each_once (map (λ death. death.agent) deaths)

-- stalls that may be set: at most one of each agent
abbrev pub are_stalls : List AgentStall → Bool
are_stalls stalls = list_all is_stall stalls && each_once (map (λ stall. stall.agent) stalls)

-- ---- clients

-- the clients are numbered on from a number
abbrev pub are_numbered : ℕ → List ClientScript → Bool
are_numbered number [] = true
are_numbered number (script ∷ scripts) =
    nat_eq script.number number && are_numbered (number + 1) scripts

-- a range that a write clears is forward
abbrev pub is_write : Mutation → Bool
is_write (Set key value) = true
is_write (ClearRange begin end) = not (is_backwards (record { begin = begin; end = end }))
is_write (Atomic op key param) = true

-- a scan's range is forward, and its limit is from 1 to 1,000
abbrev pub is_op : TxOp → Bool
is_op (Get key) = true
is_op (SnapshotGet key) = true
is_op (Scan range limit) = not (is_backwards range) && is_up_to 1000 limit
is_op (Write mutation) = is_write mutation

abbrev pub writes : TxOp → Bool
writes (Get key) = false
writes (SnapshotGet key) = false
writes (Scan range limit) = false
writes (Write mutation) = true

-- reads come before writes
abbrev pub are_reads_first : List TxOp → Bool
are_reads_first [] = true
are_reads_first (op ∷ ops) = if writes op then list_all writes ops else are_reads_first ops

-- a transaction has at most 10,000 operations
abbrev pub is_txn : List TxOp → Bool
is_txn ops = nat_le (length ops) 10000 && are_reads_first ops && list_all is_op ops

-- a client has at most 100,000 transactions
abbrev pub is_client : ClientScript → Bool
is_client script = nat_le (length script.txns) 100000 && list_all is_txn script.txns

-- there are at most 64 clients
abbrev pub are_clients : List ClientScript → Bool
are_clients clients =
    nat_le (length clients) 64 && are_numbered 1 clients && list_all is_client clients

-- ---- the schedule

-- an event of one of so many clients, or of one of so many agents or agent 0
abbrev pub is_event : ℕ → ℕ → ScheduleLine → Bool
is_event clients agents (lines.Begin client) = is_up_to clients client
is_event clients agents (lines.Commit client) = is_up_to clients client
is_event clients agents (lines.Tick n) = nat_le n most_number
is_event clients agents (lines.Claim agent pick) = nat_le agent agents && nat_le pick most_number
is_event clients agents (lines.Extend agent) = nat_le agent agents
is_event clients agents (lines.Take agent) = nat_le agent agents
is_event clients agents (lines.Place agent) = nat_le agent agents
is_event clients agents (lines.Close agent) = nat_le agent agents
is_event clients agents (lines.Die agent) = nat_le agent agents
is_event clients agents lines.Op = true
is_event clients agents lines.Drain = true

-- a schedule has at most 1,000,000 events
abbrev pub are_events : ℕ → ℕ → List ScheduleLine → Bool
are_events clients agents schedule =
    nat_le (length schedule) 1000000 && list_all (is_event clients agents) schedule
