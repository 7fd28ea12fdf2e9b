use Rattle.std.proofs.Common.{◌≡◌, true, ℕ, List, sym, subst, arith, ◌∙◌}
use Rattle.workload_text.specs.declared.agent_death.AgentDeath.{AgentDeath}
use Rattle.workload_text.specs.declared.agent_stall.AgentStall.{AgentStall}
use Rattle.workload_text.specs.declared.setting.SettingKind.{SettingKind}
use Rattle.workload_text.specs.declared.setting.SettingKind.TheVariants as kinds
use Rattle.workload_text.specs.Allowed.{are_deaths, are_stalls}
use Rattle.workload_text.specs.Settings.{is_allowed, number_for}
use Rattle.workload_text.proofs.Allowing.{number_allowed, few_agents, few_tries, small_block, deaths_allowed, stalls_allowed}
use Rattle.workload_text.proofs.building.settings_of.Goals as goal

pub overflow_cast-result : goal.overflow_cast-result
overflow_cast-result c = omega (arith, small_block c.args.settings.now c.requires.small)

pub overflow_cast-result-2 : goal.overflow_cast-result-2
overflow_cast-result-2 c = omega (arith, few_tries c.args.settings.now c.requires.small)

pub overflow_cast-result-3 : goal.overflow_cast-result-3
overflow_cast-result-3 c = omega (arith, few_agents c.args.settings.now c.requires.small)

pub invariant_of-result : goal.invariant_of-result
invariant_of-result c =
    let allowed = λ (kind : SettingKind) (n : ℕ) (e : n ≡ number_for kind c.args.settings.now). subst (λ (m : ℕ). is_allowed kind m ≡ true) (sym e) (number_allowed kind c.args.settings.now c.requires.small) in
    record {
      block_allowed = allowed kinds.Block _ c.number_for.ensures;
      pace_allowed = allowed kinds.Pace _ c.number_for-2.ensures;
      lease_allowed = allowed kinds.Lease _ c.number_for-3.ensures;
      rest_allowed = allowed kinds.Rest _ c.number_for-4.ensures;
      shard_allowed = allowed kinds.Shard _ c.number_for-5.ensures;
      span_allowed = allowed kinds.Span _ c.number_for-6.ensures;
      tries_allowed = allowed kinds.Tries _ c.number_for-7.ensures;
      agents_allowed = allowed kinds.Agents _ c.number_for-8.ensures;
      steps_allowed = allowed kinds.Steps _ c.number_for-9.ensures;
      deaths_allowed = subst (λ (ds : List AgentDeath). are_deaths ds ≡ true) (sym (c.in_ok-deaths.ensures ∙ c.in_ok-deaths_in.ensures)) (deaths_allowed c.args.settings.now c.requires);
      stalls_allowed = subst (λ (ss : List AgentStall). are_stalls ss ≡ true) (sym (c.in_ok-stalls.ensures ∙ c.in_ok-stalls_in.ensures)) (stalls_allowed c.args.settings.now c.requires);
    }
