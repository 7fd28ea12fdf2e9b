use Rattle.std.proofs.Common.{sym}
use Rattle.atomic_ops.proofs.NumberLemmas.{number-below, same_number, cmp-reverse, length-number_bytes, number_bytes_are_bytes, number-number_bytes, number_bytes-number}
use Rattle.atomic_ops.proofs.laws.number_laws.Goals as goal

pub returns : goal.returns
returns c = record {
  below = number-below;
  unique = same_number;
  compare = λ x y hx hy h. sym (cmp-reverse x y hx hy h);
  length = length-number_bytes;
  bytes = number_bytes_are_bytes;
  number = number-number_bytes;
  back = number_bytes-number;
}
