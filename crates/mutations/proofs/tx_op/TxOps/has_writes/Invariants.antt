use Rattle.std.proofs.Common.{◌≡◌, drop}
use Rattle.mutations.specs.Transactions.{writes_of}
use Rattle.mutations.proofs.tx_op.TxOps.has_writes.Given as goal

abbrev pub invariant-loop-op : goal.invariant-loop-op
invariant-loop-op l = writes_of (drop l.op-index l.op-items) ≡ writes_of l.op-items
