use Rattle.std.proofs.Common.{◌≡◌, ◌≤◌, length, take}
use Rattle.versioned_kv.specs.inner.Chunks.{joined}
use Rattle.versioned_kv.specs.inner.Pages.{pairs_in}
use Rattle.versioned_kv.proofs.chunks.scan.Given as goal

abbrev pub invariant-loop-place : goal.invariant-loop-place
invariant-loop-place g l = record {
  pairs : l.pairs.items ≡ pairs_in l.range l.version (joined (take l.place l.chunks));
  few : length l.pairs.items ≤ l.limit;
}
