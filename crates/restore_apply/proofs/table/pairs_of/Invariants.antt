use Rattle.std.proofs.Common.{◌≡◌, ◌++◌}
use Rattle.restore_apply.specs.inner.Tables.{paired}
use Rattle.restore_apply.proofs.table.pairs_of.Given as goal

abbrev pub invariant-loop-key : goal.invariant-loop-key
invariant-loop-key l = l.pairs.items ++ paired l.key-iterator ≡ paired l.fn.table.entries
