use Rattle.std.proofs.Common.{◌-◌, ◌≤◌, length}
use Rattle.versioned_kv.specs.inner.Chains.{keys_below}
use Rattle.versioned_kv.proofs.Search.{Halves}
use Rattle.versioned_kv.proofs.table.looks.Table+Chain.place_of.Given as goal

abbrev pub invariant-loop-low : goal.invariant-loop-low
invariant-loop-low g l = record {
  ordered : l.low ≤ l.high;
  within : l.high ≤ length l.self;
  from : l.low ≤ keys_below l.key l.self;
  upto : keys_below l.key l.self ≤ l.high;
  halves : Halves (length l.self) (l.high - l.low) l.initial.steps l.steps;
}

abbrev pub decreases-loop-low : goal.decreases-loop-low
decreases-loop-low g l = l.high - l.low
