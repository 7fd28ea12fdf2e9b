use Rattle.std.proofs.Common.{◌≡◌, ℕ, Bool, true, false, [], ◌∷◌, ◌++◌, ◌&&◌, length, nat_eq, ap, sym, ◌∙◌, arith}
use Rattle.fb_bytes.specs.Bytes.{Bytes, is_same}
use Rattle.mutations.proofs.Ends.{is_same-snoc, is_same-none}
use Rattle.mutations.proofs.tx_fault.is_end_of_one.Goals as goal

-- the test of the end, where it is known what its front and its last byte say
of_front : (begin end front : Bytes) (last : ℕ) (same : Bool) → end ≡ front ++ last ∷ [] → is_same front begin ≡ same → is_same end (begin ++ 0 ∷ []) ≡ (same && nat_eq last 0)
of_front begin end front last same e h = ap (λ x. is_same x (begin ++ 0 ∷ [])) e ∙ is_same-snoc front begin last 0 ∙ ap (λ v. v && nat_eq last 0) h

empty_end : (begin end : Bytes) → length end ≡ 0 → is_same end (begin ++ 0 ∷ []) ≡ false
empty_end begin [] h = is_same-none begin 0
empty_end begin (x ∷ xs) h = absurd (omega arith)

pub returns-then-is_same : goal.returns-then-is_same
returns-then-is_same c = sym (of_front _ _ _ _ true c.in-Some.ensures.cases.0 (sym c.is_same.ensures ∙ c.if-is_same.true))

pub returns-else-is_same : goal.returns-else-is_same
returns-else-is_same c = c.if-is_same.false ∙ sym (of_front _ _ _ _ false c.in-Some.ensures.cases.0 (sym c.is_same.ensures ∙ c.if-is_same.false))

pub returns-in-None : goal.returns-in-None
returns-in-None c = sym (empty_end _ _ c.in-None.ensures.cases)
