-- Bytes that come or go in pieces.
use Rattle.std.proofs.Common.{◌≡◌, ℕ, [], ◌++◌, take, drop, refl, sym, ap, ◌∙◌, append_assoc, append-nil}
use Rattle.std.proofs.lemmas.List.{take-append-drop}
use Rattle.fb_bytes.specs.Bytes.{Bytes}
use Rattle.fb_outside.specs.Contents.{IsRestOf}

-- one more piece has come
pub goes_on : (n : ℕ) (whole front rest : Bytes) → whole ≡ front ++ rest → whole ≡ (front ++ take n rest) ++ drop n rest
goes_on n whole front rest e = e ∙ ap (λ r. front ++ r) (sym (take-append-drop n rest)) ∙ sym (append_assoc front (take n rest) (drop n rest))

-- nothing is left
pub at_end : (whole front rest : Bytes) → whole ≡ front ++ rest → rest ≡ [] → front ≡ whole
at_end whole front rest e n = sym (e ∙ ap (λ r. front ++ r) n ∙ append-nil front)

pub drop-empty : (n : ℕ) (rest : Bytes) → n ≡ 0 → rest ≡ [] → drop n rest ≡ []
drop-empty n rest e d = rw (e, d) refl

-- what is left after a piece is an end of the whole
pub still_ends : (n : ℕ) (whole front rest : Bytes) → whole ≡ front ++ rest → IsRestOf whole (drop n rest)
still_ends n whole front rest e = (front ++ take n rest, goes_on n whole front rest e)
