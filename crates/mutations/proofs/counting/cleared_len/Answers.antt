use Rattle.std.proofs.Common.{◌+◌, ◌-◌, ◌^◌, min, sym, ap, ◌∙◌}
use Rattle.mutations.specs.Clipping.{cut_to}
use Rattle.mutations.proofs.Lengths.{given_more, saturated_at_end}
use Rattle.mutations.proofs.counting.cleared_len.Goals as goal

pub loop-range-preserved : goal.loop-range-preserved
loop-range-preserved c =
    let size = c.saturating_add-total.ensures ∙ ap (λ n. min (c.loop-range.total + n) (2 ^ 128 - 1)) c.cut_len.ensures in
    saturated_at_end (2 ^ 128 - 1) _ _ _ _ c.loop-range.invariant size
    ∙ ap (λ n. min n (2 ^ 128 - 1)) (sym (given_more (cut_to c.args.begin.now c.args.end.now) c.met-range-items.result.now c.loop-range.range-index c.range-item.result c.loop-range-test.true c.range-item.is))
