use Rattle.std.proofs.Common.{◌≡◌, ◌++◌, take}
use Rattle.tuple_keys.specs.Spelling.{escaped}
use Rattle.tuple_keys.proofs.packing.put_closed.Given as goal

abbrev pub invariant-loop-byte : goal.invariant-loop-byte
invariant-loop-byte l = l.out ≡ l.initial.out ++ escaped (take l.byte-index l.bytes)
