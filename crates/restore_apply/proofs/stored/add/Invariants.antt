use Rattle.std.proofs.Common.{◌≡◌, ◌++◌, drop}
use Rattle.restore_apply.specs.inner.Stored.{kept}
use Rattle.restore_apply.proofs.stored.add.Given as goal

abbrev pub invariant-loop-pair : goal.invariant-loop-pair
invariant-loop-pair l = l.pairs.items ++ kept l.range (drop l.pair-index l.more) ≡ l.fn.pairs.items ++ kept l.range l.more
