use Rattle.std.proofs.Common.{◌≡◌, ◌++◌, drop, map}
use Rattle.log_keys.specs.inner.Table.{batch_in}
use Rattle.log_keys.proofs.joining.batches_of.Given as goal

abbrev pub invariant-loop-whole : goal.invariant-loop-whole
invariant-loop-whole l = l.batches ++ map batch_in (drop l.whole-index l.wholes) ≡ map batch_in l.wholes
