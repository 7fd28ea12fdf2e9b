use Rattle.std.proofs.Common.{◌≡◌, ◌++◌, drop}
use Rattle.mutations.specs.Transactions.{writes_of}
use Rattle.mutations.proofs.tx_op.TxOps.writes.Given as goal

abbrev pub invariant-loop-op : goal.invariant-loop-op
invariant-loop-op l = l.writes.items ++ writes_of (drop l.op-index l.op-items) ≡ writes_of l.op-items
