use Rattle.std.proofs.Common.{◌≡◌, take}
use Rattle.tuple_keys.specs.Reading.{value, turned}
use Rattle.tuple_keys.proofs.numbers.value_of.Given as goal

abbrev pub invariant-loop-byte : goal.invariant-loop-byte
invariant-loop-byte l = l.value ≡ value (turned l.negative (take l.byte-index l.digits))
