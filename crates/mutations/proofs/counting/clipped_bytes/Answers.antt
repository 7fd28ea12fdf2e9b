use Rattle.std.proofs.Common.{◌-◌, ◌^◌, min, sym, ap, ◌∙◌}
use Rattle.mutations.specs.Clipping.{clipped}
use Rattle.mutations.proofs.Lengths.{given_more, saturated}
use Rattle.mutations.proofs.counting.clipped_bytes.Goals as goal

pub loop-mutation-preserved : goal.loop-mutation-preserved
loop-mutation-preserved c =
    saturated (2 ^ 128 - 1) _ _ _ _ _ c.loop-mutation.invariant c.clipped_len.ensures c.saturating_add-total.ensures
    ∙ ap (λ n. min n (2 ^ 128 - 1)) (sym (given_more (clipped c.args.ranges.now) c.args.muts.now c.loop-mutation.mutation-index c.mutation-item.result c.loop-mutation-test.true c.mutation-item.is))
