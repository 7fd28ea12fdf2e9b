-- The first place of a byte, by how many other bytes stand before it.
use Rattle.std.proofs.Common.{◌≡◌, ℕ, Bool, true, false, not, length, nat_eq, refl, ap, sym, arith}
use Rattle.std.specs.Prelude.{Option, None, Some, unwrap_or}
use Rattle.std.specs.List.{prefix_len}
use Rattle.std.proofs.lemmas.List.Sums.{prefix_len_is}
use Rattle.fb_bytes.specs.Bytes.{Bytes}
use Rattle.memchr.specs.Find.{IsFirstByte, is_byte}

not_true : (b : Bool) → ¬ (b ≡ true) → not b ≡ true
not_true true h = absurd (h refl)
not_true false h = refl

pub first_place : (a : ℕ) (bytes : Bytes) (found : Option ℕ) → IsFirstByte (is_byte a) bytes found
    → unwrap_or found (length bytes) ≡ prefix_len (λ byte. not (nat_eq byte a)) bytes
first_place a bytes None h =
    let other : ℕ → Bool = λ byte. not (nat_eq byte a) in
    sym (prefix_len_is other bytes (length bytes) 0 (omega arith)
    (λ k lt. not_true _ (h k (omega arith) lt)) (λ lt. absurd (omega arith)))
first_place a bytes (Some n) h =
    let other : ℕ → Bool = λ byte. not (nat_eq byte a) in
    let within = h.0.high in
    sym (prefix_len_is other bytes n 0 (omega arith)
    (λ k lt. not_true _ (h.0.before k (omega arith) lt)) (λ lt. ap not h.1))
