use Rattle.std.proofs.Common.{◌≡◌, ◌++◌, take}
use Rattle.tuple_keys.specs.Spelling.{spelling}
use Rattle.tuple_keys.proofs.packing.pack_into.Given as goal

abbrev pub invariant-loop-element : goal.invariant-loop-element
invariant-loop-element l = l.out ≡ l.initial.out ++ spelling (take l.element-index l.element-items)
