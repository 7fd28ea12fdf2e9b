use Rattle.std.proofs.Common.{rules, ap, ◌∙◌}
use Rattle.std.proofs.lemmas.List.Sorted.{IsNonDecreasingBy-from_sort_by_key}
use Rattle.container_view.specs.declared.logs.NamedLog.{NamedLog}
use Rattle.container_view.specs.Names.{sealed_named}
use Rattle.container_view.specs.inner.Listed.{plain_logs}
use Rattle.container_view.specs.Description.{log_span}
use Rattle.container_view.proofs.Bests.{sorted_best, sorted_rise}
use Rattle.container_view.proofs.Spans.{span_plain}
use Rattle.container_view.proofs.sorting.sorted_names.Goals as goal

pub returns-clause-sorted : goal.returns-clause-sorted
returns-clause-sorted c = record {
  rising = sorted_rise c.sort_by_key.new.self.items (IsNonDecreasingBy-from_sort_by_key (λ (log : NamedLog). log.begin) _ c.in_ok-sort_by_key.ensures.sorted (λ a r q k. search rules));
  same = sorted_best c.args.names.now c.in_ok-found.found.logs.items c.sort_by_key.new.self.items (c.in_ok-found.ensures.logs ∙ ap plain_logs c.as_slice.ensures) c.sort_by_key.ensures.permutation;
  span = c.in_ok-found.ensures.span ∙ ap log_span (c.in_ok-found.ensures.logs ∙ ap plain_logs c.as_slice.ensures) ∙ span_plain c.args.names.now;
  manifests = c.in_ok-found.ensures.manifests ∙ ap sealed_named c.as_slice.ensures;
}
