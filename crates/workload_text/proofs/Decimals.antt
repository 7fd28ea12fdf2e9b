-- Numbers that digits write, where they grow too great.
use Rattle.std.proofs.Common.{◌≡◌, ℕ, ◌+◌, ◌*◌, ◌-◌, ◌<◌, ◌≤◌, [], ◌∷◌, length, get_or, drop, sym, arith, None}
use Rattle.std.proofs.lemmas.Grind.{common_steps}
use Rattle.fb_bytes.specs.Bytes.{Bytes}
use Rattle.file_names.specs.Reading.{value_after}
use Rattle.file_names.proofs.Numbers.{value_goes_on}
use Rattle.workload_text.specs.Numbers.{if_small}

value_grows : (n : ℕ) (digits : Bytes) → n ≤ value_after n digits
value_grows n [] = omega arith
value_grows n (digit ∷ digits) =
    let rest = value_grows (n * 10 + (digit - 48)) digits in
    omega (arith, rest)

not_small : (n : ℕ) → 4611686018427387904 < n → if_small n ≡ None
not_small n h = grind (arith, common_steps)

pub too_great : (digits : Bytes) (i n digit total : ℕ) → i < length digits → digit ≡ get_or digits i 0 → total ≡ value_after n (drop i digits) → 4611686018427387904 < n * 10 + (digit - 48) → None ≡ if_small total
too_great digits i n digit total lt is e h =
    let more : value_after (n * 10 + (digit - 48)) (drop (i + 1) digits) ≡ total = value_goes_on digits i n digit total lt is (sym e) in
    let grows = value_grows (n * 10 + (digit - 48)) (drop (i + 1) digits) in
    sym (not_small total (omega (arith, grows)))
