use Rattle.std.proofs.Common.{◌≡◌, ◌-◌, ◌≤◌, ◌++◌, length, Some}
use Rattle.fb_bytes.specs.Bytes.{Bytes}
use Rattle.fb_outside.proofs.reading.read_all.Given as goal

abbrev pub invariant-reads : goal.invariant-reads
invariant-reads g l = record {
  told : (bytes : Bytes) → g.S.Source.left l.fn.source ≡ Some bytes → (rest : Bytes) × (g.S.Source.left l.source ≡ Some rest) × (bytes ≡ l.bytes.items ++ rest);
  short : length l.bytes.items ≤ l.limit;
  later : g.S.Source.faults l.fn.source ≤ g.S.Source.faults l.source;
}

abbrev pub decreases-reads : goal.decreases-reads
decreases-reads g l = l.limit - length l.bytes.items
