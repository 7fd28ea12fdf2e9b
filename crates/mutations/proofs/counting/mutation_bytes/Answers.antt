use Rattle.std.proofs.Common.{arith}
use Rattle.mutations.proofs.Lengths.{length_more}
use Rattle.mutations.proofs.counting.mutation_bytes.Goals as goal

pub loop-mutation-preserved : goal.loop-mutation-preserved
loop-mutation-preserved c = record {
  sum = omega (arith, length_more c.args.muts.now c.loop-mutation.mutation-index c.mutation-item.result c.loop-mutation-test.true c.mutation-item.is, c.loop-mutation.invariant.sum, c.mutation_len-total.ensures.sum);
  small = omega (arith, c.loop-mutation.invariant.small, c.mutation_len-total.ensures.small);
}
