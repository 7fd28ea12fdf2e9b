use Rattle.std.proofs.Common.{◌-◌, ◌≤◌, length, take, drop}
use Rattle.versioned_kv.specs.inner.Chunks.{joined, AreKeysBelow, AreKeysPast}
use Rattle.versioned_kv.proofs.Search.{Halves}
use Rattle.versioned_kv.proofs.chunks.chunk_of.Given as goal

abbrev pub invariant-loop-low : goal.invariant-loop-low
invariant-loop-low g l = record {
  ordered : l.low ≤ l.high;
  within : l.high ≤ length l.chunks;
  before : AreKeysBelow l.key (joined (take (l.low - 1) l.chunks));
  behind : AreKeysPast l.key (joined (drop l.high l.chunks));
  halves : Halves (length l.chunks) (l.high - l.low) l.initial.steps l.steps;
}

abbrev pub decreases-loop-low : goal.decreases-loop-low
decreases-loop-low g l = l.high - l.low
