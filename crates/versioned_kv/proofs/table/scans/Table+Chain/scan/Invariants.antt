use Rattle.std.proofs.Common.{◌≡◌, ◌≤◌, ◌++◌, length}
use Rattle.versioned_kv.proofs.Scans.{pairs_upto, EndsAt}
use Rattle.versioned_kv.proofs.table.scans.Table+Chain.scan.Given as goal

abbrev pub invariant-loop-place : goal.invariant-loop-place
invariant-loop-place g l = record {
  ends : EndsAt l.place l.range l.self;
  pairs : l.pairs.items ≡ l.initial.pairs.items ++ pairs_upto l.place l.range.begin l.version l.self;
  few : length l.pairs.items ≤ l.limit;
}
