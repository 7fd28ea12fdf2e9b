-- What is found by halving in a list whose begins rise.
use Rattle.std.proofs.Common.{◌≡◌, ℕ, zero, suc, ◌-◌, ◌<◌, ◌≤◌, Bool, true, false, cond, List, [], ◌∷◌, length, get_or, map, Option, Some, None, option_map, refl, sym, ap, ◌∙◌, subst, arith, nat_le}
use Rattle.std.specs.List.Sorted.{IsNonDecreasingBy, IsPartitionedBy, IsPartitionPoint}
use Rattle.std.proofs.lemmas.Bool.{cond-true, cond-false}
use Rattle.std.proofs.lemmas.List.Sorted.{IsPartitionedBy-leb}
use Rattle.container_view.specs.inner.Listed.{IsRisingBy, last_begun}

module _ {A : Type 0} (begin : A → ℕ) where
  pub rising_from : (low : ℕ) (xs : List A) → ((i : ℕ) (d : A) → i < length xs → low ≤ begin (get_or xs i d)) → IsNonDecreasingBy begin xs → IsRisingBy begin low xs
  rising_from low [] h up = tt
  rising_from low (x ∷ xs) h up = (h 0 x (omega arith), rising_from (begin x) xs (λ i d l. up 0 (suc i) d (omega arith) (omega arith)) (λ i j d l k. up (suc i) (suc j) d (omega arith) (omega arith)))

  at_least : (low : ℕ) (xs : List A) → IsRisingBy begin low xs → (i : ℕ) (d : A) → i < length xs → low ≤ begin (get_or xs i d)
  at_least low [] r i d l = absurd (omega arith)
  at_least low (x ∷ xs) r zero d l = r.0
  at_least low (x ∷ xs) r (suc i) d l = let h = at_least (begin x) xs r.1 i d (omega arith) in let k = r.0 in omega arith

  pub never_falls : (low : ℕ) (xs : List A) → IsRisingBy begin low xs → IsNonDecreasingBy begin xs
  never_falls low [] r i j d le lt = absurd (omega arith)
  never_falls low (x ∷ xs) r zero zero d le lt = omega arith
  never_falls low (x ∷ xs) r zero (suc j) d le lt = at_least (begin x) xs r.1 j d (omega arith)
  never_falls low (x ∷ xs) r (suc i) zero d le lt = absurd (omega arith)
  never_falls low (x ∷ xs) r (suc i) (suc j) d le lt = never_falls (begin x) xs r.1 i j d (omega arith) (omega arith)

  pub parted : (version low : ℕ) (xs : List A) → IsRisingBy begin low xs → IsPartitionedBy (λ x. nat_le (begin x) version) xs
  parted version low xs r = IsPartitionedBy-leb begin xs version (never_falls low xs r)

  module _ (version : ℕ) where
    abbrev is_begun : A → Bool
    is_begun x = nat_le (begin x) version

    back : (i : ℕ) → suc i - 1 ≡ i
    back i = omega arith

    abbrev Parts : List A → ℕ → Type 0
    Parts xs i = IsPartitionPoint (λ x. is_begun x ≡ true) (λ x. is_begun x ≡ false) xs i

    none_begun : (found : Option A) (xs : List A) → Parts xs 0 → last_begun begin version found xs ≡ found
    none_begun found [] h = refl
    none_begun found (x ∷ xs) h = cond-false (nat_le (begin x) version) (last_begun begin version (Some x) xs) found (h.1 0 x (omega arith) (omega arith))

    behind : (x : A) (xs : List A) (i : ℕ) → Parts (x ∷ xs) (suc i) → Parts xs i
    behind x xs i h = ((λ k d l u. h.0 (suc k) d (omega arith) (omega arith)), (λ k d l u. h.1 (suc k) d (omega arith) (omega arith)))

    some_begun : (found : Option A) (xs : List A) (i : ℕ) (d : A) → i < length xs → Parts xs (suc i) → last_begun begin version found xs ≡ Some (get_or xs i d)
    some_begun found [] i d l h = absurd (omega arith)
    some_begun found (x ∷ xs) zero d l h =
        cond-true (nat_le (begin x) version) (last_begun begin version (Some x) xs) found (h.0 0 x (omega arith) (omega arith))
        ∙ none_begun (Some x) xs (behind x xs 0 h)
    some_begun found (x ∷ xs) (suc i) d l h =
        cond-true (nat_le (begin x) version) (last_begun begin version (Some x) xs) found (h.0 0 x (omega arith) (omega arith))
        ∙ some_begun (Some x) xs i d (omega arith) (behind x xs (suc i) h)

    pub no_place : (xs : List A) (place : ℕ) → Parts xs place → place ≡ 0 → last_begun begin version None xs ≡ None
    no_place xs place h e = none_begun None xs (subst (Parts xs) e h)

    pub at_place : (xs : List A) (place : ℕ) (x d : A) → place ≤ length xs → Parts xs place → 0 < place → x ≡ get_or xs (place - 1) d → last_begun begin version None xs ≡ Some x
    at_place xs zero x d le h pos e = absurd (omega arith)
    at_place xs (suc i) x d le h pos e = some_begun None xs i d (omega arith) h ∙ ap Some (sym (e ∙ ap (λ n. get_or xs n d) (back i)))

    pub mapped_begun : {B : Type 0} (f : B → A) (found : Option B) (ys : List B) → last_begun begin version (option_map f found) (map f ys) ≡ option_map f (last_begun (λ y. begin (f y)) version found ys)
    mapped_begun f found [] = refl
    mapped_begun {B} f found (y ∷ ys) = ap (λ o. cond (nat_le (begin (f y)) version) o (option_map f found)) (mapped_begun f (Some y) ys) ∙ go (nat_le (begin (f y)) version) (last_begun (λ y. begin (f y)) version (Some y) ys)
      where
        go : (b : Bool) (o : Option B) → cond b (option_map f o) (option_map f found) ≡ option_map f (cond b o found)
        go true o = refl
        go false o = refl
