use Rattle.std.proofs.Common.{◌≡◌, ◌≤◌, drop}
use Rattle.file_names.specs.Reading.{value_after}
use Rattle.workload_text.proofs.numbers.value_of.Given as goal

abbrev pub invariant-loop-digit : goal.invariant-loop-digit
invariant-loop-digit l = record {
  same : value_after 0 l.digits ≡ value_after l.value (drop l.digit-index l.digits);
  small : l.value ≤ 4611686018427387904;
}
