use Rattle.std.proofs.Common.{◌≡◌, ◌-◌, ◌∷◌, ◌++◌, take, length}
use Rattle.tuple_keys.specs.Spelling.{complement}
use Rattle.tuple_keys.proofs.packing.put_negative.Given as goal

abbrev pub invariant-loop-digit : goal.invariant-loop-digit
invariant-loop-digit l = l.out ≡ l.fn.out ++ (20 - length l.digits) ∷ complement (take l.digit-index l.digits)
