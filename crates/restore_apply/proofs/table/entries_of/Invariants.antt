use Rattle.std.proofs.Common.{◌≡◌, ◌++◌}
use Rattle.restore_apply.specs.inner.Tables.{paired}
use Rattle.restore_apply.proofs.table.entries_of.Given as goal

abbrev pub invariant-loop-pair : goal.invariant-loop-pair
invariant-loop-pair l = paired l.entries.items ++ l.pair-iterator.rest.items ≡ l.fn.pairs.items
