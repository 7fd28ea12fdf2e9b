use Rattle.std.proofs.Common.{sym, subst}
use Rattle.log_keys.specs.inner.Table.{Whole, IsRead}
use Rattle.log_keys.proofs.joining.batches_of.Goals as goal

pub read-requires : goal.read-requires
read-requires c = subst (λ (whole : Whole). IsRead whole.bytes) (sym c.whole-item.is) (c.requires c.loop-whole.whole-index c.whole-item.result c.loop-whole-test.true)
