use Rattle.std.proofs.Common.{◌≡◌, ◌+◌, ◌*◌, ◌^◌, ◌≤◌, drop}
use Rattle.mutations.specs.Transactions.{written_bytes}
use Rattle.mutations.proofs.tx_fault.bytes_of_writes.Given as goal

abbrev pub invariant-loop-op : goal.invariant-loop-op
invariant-loop-op l = record {
  sum : l.bytes + written_bytes (drop l.op-index l.ops) ≡ written_bytes l.ops;
  small : l.bytes ≤ l.op-index * 2 ^ 65;
}
