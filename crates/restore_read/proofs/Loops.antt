-- Files that are read one after the other.
use Rattle.std.proofs.Common.{◌≡◌, ◌∙◌, ℕ, ◌+◌, ◌<◌, List, [], ◌∷◌, ◌++◌, length, drop, get_or, Result, Ok, Err, inl, inr, refl, sym, ap, append_assoc}
use Rattle.std.proofs.lemmas.List.{drop_more}
use Rattle.container_view.specs.declared.ViewFault.{ViewFault}
use Rattle.container_view.specs.Sets.{◌>>=◌, Fails}
use Rattle.restore_read.specs.Reading.{each_or}

module _ {A B : Type 0} (read : A → Result B ViewFault) where
  -- what was read already, and then the rest
  abbrev pub with_rest : List B → List A → Result (List B) ViewFault
  with_rest front xs = each_or read xs >>= λ rest. Ok (front ++ rest)

  left : (xs : List A) (i : ℕ) (x : A) → i < length xs → x ≡ get_or xs i x → drop i xs ≡ x ∷ drop (i + 1) xs
  left xs i x h is = drop_more xs i x h ∙ ap (λ z. z ∷ drop (i + 1) xs) (sym is)

  turn : (front : List B) (y : B) (rest : Result (List B) ViewFault) → (rest >>= λ ys. Ok ((front ++ y ∷ []) ++ ys)) ≡ ((rest >>= λ ys. Ok (y ∷ ys)) >>= λ ys. Ok (front ++ ys))
  turn front y (Ok ys) = ap Ok (append_assoc front (y ∷ []) ys)
  turn front y (Err fault) = refl

  -- one more is read
  pub goes_on : (front more : List B) (xs : List A) (all : Result (List B) ViewFault) (i : ℕ) (x : A) (y : B) → i < length xs → x ≡ get_or xs i x → read x ≡ Ok y → more ≡ front ++ y ∷ [] → with_rest front (drop i xs) ≡ all → with_rest more (drop (i + 1) xs) ≡ all
  goes_on front more xs all i x y h is e m so =
      ap (λ (f : List B). with_rest f (drop (i + 1) xs)) m
      ∙ turn front y (each_or read (drop (i + 1) xs))
      ∙ ap (λ (r : Result B ViewFault). (r >>= λ z. each_or read (drop (i + 1) xs) >>= λ ys. Ok (z ∷ ys)) >>= λ ys. Ok (front ++ ys)) (sym e)
      ∙ ap (with_rest front) (sym (left xs i x h is))
      ∙ so

  -- one isn't read, and so neither are all
  pub ends : (front : List B) (xs : List A) (all : Result (List B) ViewFault) (i : ℕ) (x : A) (fault : ViewFault) → i < length xs → x ≡ get_or xs i x → with_rest front (drop i xs) ≡ all → Fails fault (read x) → Fails fault all
  ends front xs all i x fault h is so (inl e) = inl e
  ends front xs all i x fault h is so (inr (inl e)) = inr (inl e)
  ends front xs all i x fault h is so (inr (inr e)) =
      inr (inr (
      sym so
      ∙ ap (with_rest front) (left xs i x h is)
      ∙ ap (λ (r : Result B ViewFault). (r >>= λ z. each_or read (drop (i + 1) xs) >>= λ ys. Ok (z ∷ ys)) >>= λ ys. Ok (front ++ ys)) e
      ))
