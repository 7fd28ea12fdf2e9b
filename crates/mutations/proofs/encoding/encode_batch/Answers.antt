use Rattle.mutations.proofs.Lengths.{item_fits}
use Rattle.mutations.proofs.encoding.encode_batch.Goals as goal

pub put_mutation-requires : goal.put_mutation-requires
put_mutation-requires c = item_fits c.as_slice-muts.result.now c.loop-mutation.mutation-index c.mutation-item.result _ c.loop-mutation-test.true c.mutation-item.is (rw c.as_slice-muts.ensures c.requires.few)
