use Rattle.std.proofs.Common.{◌≡◌, ◌<◌, ◌^◌, drop}
use Rattle.file_names.specs.Reading.{value_after}
use Rattle.file_names.proofs.parsing.value_of.Given as goal

abbrev pub invariant-loop-digit : goal.invariant-loop-digit
invariant-loop-digit l = record { value : value_after l.value (drop l.digit-index l.digits) ≡ value_after 0 l.digits; small : l.value < 2 ^ 63 }
