use Rattle.std.proofs.Common.{◌≡◌, true, List, length, nat_le, sym, subst}
use Rattle.std.specs.List.{AllByRecursion}
use Rattle.workload_text.specs.declared.client_script.ClientScript.{ClientScript}
use Rattle.workload_text.specs.declared.command.Command.{Command}
use Rattle.workload_text.specs.declared.schedule.ScheduleLine.{ScheduleLine}
use Rattle.workload_text.specs.declared.settings.Settings.{Settings}
use Rattle.workload_text.specs.Allowed.{are_clients, are_events}
use Rattle.workload_text.specs.Commands.{IsCommand}
use Rattle.workload_text.proofs.Copying.{same_workload}
use Rattle.workload_text.proofs.workload.WorkloadTryCopy.copy.Goals as goal

pub invariant_of-result : goal.invariant_of-result
invariant_of-result c = record {
  clients_allowed = subst (λ (cs : List ClientScript). are_clients cs ≡ true) (sym c.in_ok-clients.ensures) c.args.self.now.clients_allowed;
  few_commands = subst (λ (os : List Command). nat_le (length os) 1000 ≡ true) (sym c.in_ok-operator.ensures) c.args.self.now.few_commands;
  operator_allowed =
      subst (λ (s : Settings). AllByRecursion (IsCommand s.block) c.in_ok-operator.operator) (sym c.in_ok-settings.ensures)
      (subst (λ (os : List Command). AllByRecursion (IsCommand c.args.self.now.settings.block) os) (sym c.in_ok-operator.ensures) c.args.self.now.operator_allowed);
  schedule_allowed =
      subst (λ (s : Settings). are_events (length c.in_ok-clients.clients) s.agents c.in_ok-schedule.schedule ≡ true) (sym c.in_ok-settings.ensures)
      (subst (λ (cs : List ClientScript). are_events (length cs) c.args.self.now.settings.agents c.in_ok-schedule.schedule ≡ true) (sym c.in_ok-clients.ensures)
      (subst (λ (es : List ScheduleLine). are_events (length c.args.self.now.clients) c.args.self.now.settings.agents es ≡ true) (sym c.in_ok-schedule.ensures) c.args.self.now.schedule_allowed));
}

pub returns : goal.returns
returns c = same_workload c.args.self.now _ _ _ _ _ _ _ _ c.in_ok-settings.ensures c.in_ok-clients.ensures c.in_ok-operator.ensures c.in_ok-schedule.ensures
