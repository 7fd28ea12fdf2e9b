use Rattle.std.proofs.Common.{◌≡◌, ◌++◌, drop}
use Rattle.log_keys.specs.inner.Table.{joined, joined_with}
use Rattle.log_keys.proofs.joining.all_joined.Given as goal

abbrev pub invariant-loop-row : goal.invariant-loop-row
invariant-loop-row l = l.wholes.items ++ joined_with l.last (drop l.row-index l.rows) ≡ joined l.rows
