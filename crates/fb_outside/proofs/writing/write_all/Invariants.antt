use Rattle.std.proofs.Common.{◌≡◌, ◌≤◌, ◌++◌, length, Some}
use Rattle.fb_bytes.specs.Bytes.{Bytes}
use Rattle.fb_outside.proofs.writing.write_all.Given as goal

abbrev pub invariant-pieces : goal.invariant-pieces
invariant-pieces g l = (front : Bytes) × (l.bytes ≡ front ++ l.rest) × ((held : Bytes) → g.K.Sink.held l.fn.sink ≡ Some held → g.K.Sink.held l.sink ≡ Some (held ++ front)) × (g.K.Sink.faults l.fn.sink ≤ g.K.Sink.faults l.sink)

abbrev pub decreases-pieces : goal.decreases-pieces
decreases-pieces g l = length l.rest
