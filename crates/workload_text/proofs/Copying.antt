-- A workload is told by its fields that code sees.
use Rattle.std.proofs.Common.{◌≡◌, true, List, length, nat_le, sym, subst}
use Rattle.std.proofs.Math.Bool.{Bool-set}
use Rattle.std.specs.List.{AllByRecursion, AllByRecursion-prop}
use Rattle.workload_text.specs.declared.client_script.ClientScript.{ClientScript}
use Rattle.workload_text.specs.declared.command.Command.{Command}
use Rattle.workload_text.specs.declared.schedule.ScheduleLine.{ScheduleLine}
use Rattle.workload_text.specs.declared.settings.Settings.{Settings}
use Rattle.workload_text.specs.declared.workload.Workload.{Workload}
use Rattle.workload_text.specs.Allowed.{are_clients, are_events}
use Rattle.workload_text.specs.Commands.{IsCommand, IsCommand-prop}

abbrev Seen : Type 0
Seen = Settings × List ClientScript × List Command × List ScheduleLine

abbrev Told : Workload → Seen → Type 0
Told w x =
    (a : are_clients x.1 ≡ true) (b : nat_le (length x.2) 1000 ≡ true) (c : AllByRecursion (IsCommand x.0.block) x.2)
    (d : are_events (length x.1) x.0.agents x.3 ≡ true)
    → record { settings = x.0; clients = x.1; operator = x.2; schedule = x.3; clients_allowed = a; few_commands = b; operator_allowed = c; schedule_allowed = d } ≡ w

pub same_workload : (w : Workload) (s : Settings) (cs : List ClientScript) (os : List Command) (es : List ScheduleLine) (a : are_clients cs ≡ true) (b : nat_le (length os) 1000 ≡ true) (c : AllByRecursion (IsCommand s.block) os) (d : are_events (length cs) s.agents es ≡ true) → s ≡ w.settings → cs ≡ w.clients → os ≡ w.operator → es ≡ w.schedule → record { settings = s; clients = cs; operator = os; schedule = es; clients_allowed = a; few_commands = b; operator_allowed = c; schedule_allowed = d } ≡ w
same_workload w s cs os es a b c d p q r t =
    let here : Seen = (w.settings, w.clients, w.operator, w.schedule) in
    let there : Seen = (s, cs, os, es) in
    let e : there ≡ here = λ i. (p i, q i, r i, t i) in
    let base : Told w here = λ a' b' c' d' i. record {
      settings = w.settings;
      clients = w.clients;
      operator = w.operator;
      schedule = w.schedule;
      clients_allowed = Bool-set _ _ a' w.clients_allowed i;
      few_commands = Bool-set _ _ b' w.few_commands i;
      operator_allowed = AllByRecursion-prop (IsCommand w.settings.block) (IsCommand-prop w.settings.block) w.operator c' w.operator_allowed i;
      schedule_allowed = Bool-set _ _ d' w.schedule_allowed i;
    } in
    (subst (Told w) (sym e) base) a b c d
