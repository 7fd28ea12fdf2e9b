-- What the reader keeps from line to line.
use Rattle.std.specs.Prelude.{◌≡◌, ℕ, ◌+◌, Bool, true, false, not, ◌||◌, List, []}
use Rattle.std.specs.Prelude.{map, length, nat_le, if◌then◌else◌}
use Rattle.std.specs.List.{AllByRecursion, list_all, list_any}
use Rattle.mutations.specs.declared.TxOp.{TxOp}
use Rattle.workload_text.specs.declared.agent_death.AgentDeath.{AgentDeath}
use Rattle.workload_text.specs.declared.agent_stall.AgentStall.{AgentStall}
use Rattle.workload_text.specs.declared.command.Command.{Command}
use Rattle.workload_text.specs.declared.part.Part.{Part}
use Rattle.workload_text.specs.declared.part.Part.TheVariants as parts
use Rattle.workload_text.specs.declared.schedule.EventKind.{EventKind}
use Rattle.workload_text.specs.declared.schedule.EventKind.TheVariants as events
use Rattle.workload_text.specs.declared.schedule.ScheduleLine.{ScheduleLine}
use Rattle.workload_text.specs.declared.setting.Setting.{Setting}
use Rattle.workload_text.specs.declared.setting.Setting.TheVariants.{Number, Death, Stall}
use Rattle.workload_text.specs.declared.setting.SettingKind.TheVariants as kinds
use Rattle.workload_text.specs.Allowed.{is_death, is_stall, each_once, are_numbered, is_client}
use Rattle.workload_text.specs.Allowed.{is_txn, writes, is_event, are_clients, are_events}
use Rattle.workload_text.specs.Commands.{IsCommand}
use Rattle.workload_text.specs.Settings.{is_allowed, number_for, deaths_in, stalls_in}
use Rattle.workload_text.specs.Sofar.{Sofar, clients_in, in_txn, in_operator, in_schedule}

-- a setting is within its limits
abbrev pub is_small : Setting → Bool
is_small (Number kind n) = is_allowed kind n
is_small (Death agent turn) = is_death (record { agent = agent; turn = turn })
is_small (Stall agent turn turns) =
    is_stall (record { agent = agent; turn = turn; turns = turns })

-- an event's number, where it is a client's or an agent's, is at most 64
abbrev pub fits : EventKind → ℕ → Bool
fits events.Tick n = true
fits events.Op n = true
fits events.Drain n = true
fits kind n = nat_le n 64

-- settings may be set together
pub record AreReady (settings : List Setting) : Type 0 where
  pub small : list_all is_small settings ≡ true
  pub deaths_once : each_once (map (λ (d : AgentDeath). d.agent) (deaths_in settings)) ≡ true
  pub stalls_once : each_once (map (λ (s : AgentStall). s.agent) (stalls_in settings)) ≡ true

-- the transactions of the client that may go on, with the one that may go on
abbrev pub txns_in : Sofar → ℕ
txns_in s = if in_txn s.part then length s.txns + 1 else length s.txns

-- operations without a write, but in a transaction that has one
abbrev pub is_open : Part → List TxOp → Bool
is_open parts.Writes ops = true
is_open part ops = not (list_any writes ops)

-- no commands came before the operator
abbrev pub NoCommands : Bool → List Command → Type 0
NoCommands true operator = Unit {0}
NoCommands false operator = operator ≡ []

-- no events came before the schedule
abbrev pub NoEvents : Bool → List ScheduleLine → Type 0
NoEvents true schedule = Unit {0}
NoEvents false schedule = schedule ≡ []

-- what was read is within the rules and limits of a text
pub record IsReady (s : Sofar) : Type 0 where
  pub settings : AreReady s.settings
  pub few_clients : nat_le (clients_in s) 64 ≡ true
  pub numbered : are_numbered 1 s.clients ≡ true
  pub clients : list_all is_client s.clients ≡ true
  pub few_txns : nat_le (txns_in s) 100000 ≡ true
  pub txns : list_all is_txn s.txns ≡ true
  pub ops : is_txn s.ops ≡ true
  pub open' : is_open s.part s.ops ≡ true
  pub few_commands : nat_le (length s.operator) 1000 ≡ true
  pub operator : AllByRecursion (IsCommand (number_for kinds.Block s.settings)) s.operator
  pub few_events : nat_le (length s.schedule) 1000000 ≡ true
  pub schedule :
      list_all (is_event (length s.clients) (number_for kinds.Agents s.settings)) s.schedule ≡ true
  pub no_commands : NoCommands (in_operator s.part || in_schedule s.part) s.operator
  pub no_events : NoEvents (in_schedule s.part) s.schedule

-- what was read is within the rules and limits, and its last client is complete
pub record IsWhole (s : Sofar) : Type 0 where
  pub settings : AreReady s.settings
  pub clients : are_clients s.clients ≡ true
  pub few_commands : nat_le (length s.operator) 1000 ≡ true
  pub operator : AllByRecursion (IsCommand (number_for kinds.Block s.settings)) s.operator
  pub schedule :
      are_events (length s.clients) (number_for kinds.Agents s.settings) s.schedule ≡ true
