use Rattle.std.proofs.Common.{length}
use Rattle.tuple_keys.specs.Reading.{reading}
use Rattle.tuple_keys.proofs.Loops.{Reads}
use Rattle.tuple_keys.proofs.unpacking.elements_of.Given as goal

abbrev pub invariant-loop-rest : goal.invariant-loop-rest
invariant-loop-rest l = Reads (length l.bytes) l.tuple l.rest (reading l.bytes)

abbrev pub decreases-loop-rest : goal.decreases-loop-rest
decreases-loop-rest l = length l.rest
