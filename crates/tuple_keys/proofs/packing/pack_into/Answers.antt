use Rattle.tuple_keys.proofs.Small.{AreSmall-at}
use Rattle.tuple_keys.proofs.packing.pack_into.Goals as goal

pub put-requires : goal.put-requires
put-requires c =
    AreSmall-at c.as_slice-element-items.result.now c.loop-element.element-index c.element-item.result (rw c.as_slice-element-items.ensures.same c.as_slice-element-items.ensures.small) c.loop-element-test.true c.element-item.is
