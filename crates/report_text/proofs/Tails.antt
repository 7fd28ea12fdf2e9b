-- The room that a number takes.
use Rattle.std.proofs.Common.{◌≡◌, ℕ, ◌+◌, ◌<◌, ◌≤◌, ◌^◌, List, ◌++◌, length, drop, decimal, ap, ◌∙◌, arith}
use Rattle.std.proofs.lemmas.Fmt.{length-decimal-le}
use Rattle.std.proofs.lemmas.List.{length-append, length-drop}

few_digits : (n : ℕ) → n < 2 ^ 64 → length (decimal n) ≤ 20
few_digits n h = length-decimal-le 20 n (omega arith) (omega (arith, h)) h

pub has_room : (n start : ℕ) (bytes : List ℕ) → n < 2 ^ 64 → start ≤ length bytes → length bytes ≡ 192 → 20 + length (drop start bytes) ≤ 192 → (length (decimal n) ≤ start) × (start ≤ length bytes)
has_room n start bytes h le long room = (omega (arith, few_digits n h, length-drop start bytes, long, room, le), le)

pub longer : (n : ℕ) (old new : List ℕ) → n < 2 ^ 64 → new ≡ decimal n ++ old → length new ≤ 20 + length old
longer n old new h e = omega (arith, few_digits n h, ap length e ∙ length-append (decimal n) old)
