use Rattle.std.proofs.Common.{◌≡◌, length}
use Rattle.tuple_keys.specs.Reading.{closed_at}
use Rattle.tuple_keys.proofs.Loops.{with_bytes}
use Rattle.tuple_keys.proofs.unpacking.closed_of.Given as goal

abbrev pub invariant-loop-byte : goal.invariant-loop-byte
invariant-loop-byte l = with_bytes l.found.items (closed_at l.at l.rest) ≡ closed_at l.at l.bytes

abbrev pub decreases-loop-byte : goal.decreases-loop-byte
decreases-loop-byte l = length l.rest
