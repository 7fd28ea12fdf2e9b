use Rattle.std.proofs.Common.{◌≡◌, true, ℕ, List, length, nat_le, ap, sym, subst, ◌∙◌}
use Rattle.std.specs.List.{AllByRecursion}
use Rattle.workload_text.specs.declared.command.Command.{Command}
use Rattle.workload_text.specs.declared.schedule.ScheduleLine.{ScheduleLine}
use Rattle.workload_text.specs.declared.setting.Setting.{Setting}
use Rattle.workload_text.specs.declared.setting.SettingKind.TheVariants as kinds
use Rattle.workload_text.specs.Allowed.{are_events}
use Rattle.workload_text.specs.Commands.{IsCommand}
use Rattle.workload_text.specs.Settings.{Numbers, number_for}
use Rattle.workload_text.proofs.building.whole.Goals as goal

pub invariant_of-result : goal.invariant_of-result
invariant_of-result c =
    let block = ap (λ (n : Numbers). n.block) c.in_ok-settings.ensures ∙ ap (λ (list : List Setting). number_for kinds.Block list) c.as_slice.ensures in
    let agents = ap (λ (n : Numbers). n.agents) c.in_ok-settings.ensures ∙ ap (λ (list : List Setting). number_for kinds.Agents list) c.as_slice.ensures in
    let operator = c.in_ok-operator.ensures ∙ c.into_vec.ensures in
    let schedule = c.in_ok-schedule.ensures ∙ c.into_vec-2.ensures in
    record {
      clients_allowed = c.requires.clients;
      few_commands = subst (λ (os : List Command). nat_le (length os) 1000 ≡ true) (sym operator) c.requires.few_commands;
      operator_allowed =
          subst (λ (b : ℕ). AllByRecursion (IsCommand b) c.in_ok-operator.operator) (sym block)
          (subst (λ (os : List Command). AllByRecursion (IsCommand (number_for kinds.Block c.args.reader.settings)) os) (sym operator) c.requires.operator);
      schedule_allowed =
          subst (λ (a : ℕ). are_events (length c.args.reader.clients) a c.in_ok-schedule.schedule ≡ true) (sym agents)
          (subst (λ (es : List ScheduleLine). are_events (length c.args.reader.clients) (number_for kinds.Agents c.args.reader.settings) es ≡ true) (sym schedule) c.requires.schedule);
    }
