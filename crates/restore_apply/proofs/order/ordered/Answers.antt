use Rattle.std.proofs.Common.{ap, ◌∙◌, rules}
use Rattle.std.proofs.lemmas.List.Sorted.{answers_always}
use Rattle.fb_bytes.specs.Bytes as bytes
use Rattle.restore_apply.specs.Overlaps.{in_order}
use Rattle.restore_apply.proofs.Sorting.{sorted_is, ordered_from, weak_order, begins_below}
use Rattle.restore_apply.proofs.order.ordered.Goals as goal

pub returns : goal.returns
unfolding bytes.is_below
returns c =
    let sorted = c.in_ok-sort_by.ensures.sorted begins_below weak_order (answers_always _ _ _ (λ f a r q k. search rules)) in
    let stable = c.in_ok-sort_by.ensures.stable begins_below weak_order (answers_always _ _ _ (λ f a r q k. search rules)) in
    record {
      same = sorted_is c.in_ok-order.order.items c.sort_by.new.self.items sorted stable ∙ ap in_order c.in_ok-order.ensures;
      ordered = ordered_from c.sort_by.new.self.items sorted;
    }
