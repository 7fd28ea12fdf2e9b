-- The bytes of a block and those behind it, as a loop cuts them.
use Rattle.std.proofs.Common.{◌≡◌, ℕ, min, length, take, drop, sym, ap, ◌∙◌, arith, inl, inr}
use Rattle.std.proofs.lemmas.Bool.{cases_lt}
use Rattle.std.proofs.lemmas.List.{take_all, drop_all}
use Rattle.fb_bytes.specs.Bytes.{Bytes}

pub piece_is : (n mid : ℕ) (bytes piece : Bytes) → mid ≡ min (length bytes) n → piece ≡ take mid bytes → piece ≡ take n bytes
piece_is n mid bytes piece m e =
    e ∙ ap (λ (k : ℕ). take k bytes) m ∙ elim (cases_lt (length bytes) n) [
      | inl less ↦ (let k : min (length bytes) n ≡ length bytes = omega arith in ap (λ (i : ℕ). take i bytes) k ∙ take_all (length bytes) bytes (omega arith) ∙ sym (take_all n bytes (omega arith)))
      | inr more ↦ (let k : min (length bytes) n ≡ n = omega arith in ap (λ (i : ℕ). take i bytes) k)
    ]

pub rest_is : (n mid : ℕ) (bytes rest : Bytes) → mid ≡ min (length bytes) n → rest ≡ drop mid bytes → rest ≡ drop n bytes
rest_is n mid bytes rest m e =
    e ∙ ap (λ (k : ℕ). drop k bytes) m ∙ elim (cases_lt (length bytes) n) [
      | inl less ↦ (let k : min (length bytes) n ≡ length bytes = omega arith in ap (λ (i : ℕ). drop i bytes) k ∙ drop_all (length bytes) bytes (omega arith) ∙ sym (drop_all n bytes (omega arith)))
      | inr more ↦ (let k : min (length bytes) n ≡ n = omega arith in ap (λ (i : ℕ). drop i bytes) k)
    ]
