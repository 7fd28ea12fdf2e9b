use Rattle.std.proofs.Common.{◌≡◌, take}
use Rattle.tuple_keys.proofs.tuple.Tuple.copy.Given as goal

abbrev pub invariant-loop-element : goal.invariant-loop-element
invariant-loop-element l = l.elements.items ≡ take l.element-index l.element-items
