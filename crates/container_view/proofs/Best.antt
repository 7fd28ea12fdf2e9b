-- The best of those that pass is the best.
use Rattle.std.proofs.Common.{◌≡◌, ℕ, ◌<◌, Bool, true, false, cond, ◌&&◌, List, [], ◌∷◌, ◌++◌, Option, Some, None, is_some, ◌⊎◌, inl, inr, ⊎_elim, refl, sym, ap, ◌∙◌, subst, arith, nat_lt, ◌==◌}
use Rattle.std.proofs.lemmas.Bool.{cases_order, false_from_ne_true, and_from, and_parts, or_cases, or_left, or_right, lt-ltb, ltb-true, eq-eqb, eqb-true}
use Rattle.fb_bytes.specs.Bytes.{Bytes, is_below}
use Rattle.fb_bytes.specs.Options.{IsIn, better_of, best_of}
use Rattle.mutations.proofs.Basics.{by_test, not_both}
use Rattle.fb_bytes.proofs.Order.{below_trans, below_up, below_itself}
use Rattle.container_view.specs.Chain.{comes_first}
use Rattle.container_view.specs.Choices.{IsNoBetter}

pub record IsOrder {A : Type 0} (beats : A → A → Bool) : Type 0 where
  pub itself : (x : A) → beats x x ≡ false
  pub trans : (x y z : A) → beats x y ≡ true → beats y z ≡ true → beats x z ≡ true
  pub up : (x y z : A) → beats x z ≡ true → beats y z ≡ false → beats x y ≡ true

module _ {A : Type 0} (passes : A → Bool) (beats : A → A → Bool) where
  pub best_of_some : (xs : List A) (y : A) → IsIn y xs → passes y ≡ true → is_some (best_of passes beats xs) ≡ true
  best_of_some [] y i p = absurd i
  best_of_some (x ∷ xs) y (inl e) p = rw (ap passes (sym e) ∙ p) refl
  best_of_some (x ∷ xs) y (inr i) p = by_test (passes x) (λ o. is_some o ≡ true) _ _ (λ h. refl) (λ h. best_of_some xs y i p)

  -- files that don't pass don't count
  pub best_of_skip : (x : A) (xs ys : List A) → passes x ≡ false → best_of passes beats (xs ++ x ∷ ys) ≡ best_of passes beats (xs ++ ys)
  best_of_skip x [] ys p = rw p refl
  best_of_skip x (z ∷ xs) ys p = ap (λ o. cond (passes z) (Some (better_of beats z o)) o) (best_of_skip x xs ys p)

  abbrev Tops : List A → Option A → Type 0
  Tops xs o = (z : A) → IsIn z xs → passes z ≡ true → (r : A) × (o ≡ Some r) × (beats z r ≡ false)

  module _ (order : IsOrder beats) where
    asym : (x y : A) → beats y x ≡ true → beats x y ≡ false
    asym x y h = false_from_ne_true (beats x y) (λ g. not_both (order.trans x y x g h) (order.itself x))

    tops_better : (x : A) (xs : List A) (o : Option A) → Tops xs o → Tops (x ∷ xs) (Some (better_of beats x o))
    tops_better x xs None ih z (inl e) p = (x, refl, subst (λ y. beats y x ≡ false) (sym e) (order.itself x))
    tops_better x xs None ih z (inr i) p = let r = ih z i p in cc (r.1)
    tops_better x xs (Some y) ih z i p = by_test (beats y x) (λ w. (r : A) × (Some w ≡ Some r) × (beats z r ≡ false)) y x (is_y i) (is_x i)
      where
        of_tops : IsIn z xs → beats z y ≡ false
        of_tops j = let r = ih z j p in let e : y ≡ r.0 = cc (r.1) in rw e r.2

        is_y : IsIn z (x ∷ xs) → beats y x ≡ true → (r : A) × (Some y ≡ Some r) × (beats z r ≡ false)
        is_y (inl e) h = (y, refl, subst (λ w. beats w y ≡ false) (sym e) (asym x y h))
        is_y (inr j) h = (y, refl, of_tops j)

        is_x : IsIn z (x ∷ xs) → beats y x ≡ false → (r : A) × (Some x ≡ Some r) × (beats z r ≡ false)
        is_x (inl e) h = (x, refl, subst (λ w. beats w x ≡ false) (sym e) (order.itself x))
        is_x (inr j) h = (x, refl, false_from_ne_true (beats z x) (λ g. not_both (order.up z y x g h) (of_tops j)))

    pub best_of_tops : (xs : List A) → Tops xs (best_of passes beats xs)
    best_of_tops [] = λ z i p. absurd i
    best_of_tops (x ∷ xs) = by_test (passes x) (Tops (x ∷ xs)) _ _ (λ h. tops_better x xs _ (best_of_tops xs)) (λ h z i p. ⊎_elim (λ e. not_both p (ap passes e ∙ h)) (λ j. best_of_tops xs z j p) i)

-- ---- the order of ends and names

pub first_is : (m n : ℕ) (x y : Bytes) → comes_first m x n y ≡ true → (n < m) ⊎ ((m ≡ n) × (is_below x y ≡ true))
first_is m n x y h = ⊎_elim (λ l. inl (ltb-true n m l)) (λ e. let p = and_parts (m == n) (is_below x y) e in inr (eqb-true m n p.0, p.1)) (or_cases (nat_lt n m) (m == n && is_below x y) h)

pub is_first : (m n : ℕ) (x y : Bytes) → (n < m) ⊎ ((m ≡ n) × (is_below x y ≡ true)) → comes_first m x n y ≡ true
is_first m n x y h = ⊎_elim (λ l. or_left _ _ (lt-ltb n m l)) (λ e. or_right _ _ (and_from _ _ (eq-eqb m n e.0) e.1)) h

first_trans : (l m n : ℕ) (x y z : Bytes) → comes_first l x m y ≡ true → comes_first m y n z ≡ true → comes_first l x n z ≡ true
first_trans l m n x y z h g = is_first l n x z (go (first_is l m x y h) (first_is m n y z g))
  where
    go : (m < l) ⊎ ((l ≡ m) × (is_below x y ≡ true)) → (n < m) ⊎ ((m ≡ n) × (is_below y z ≡ true)) → (n < l) ⊎ ((l ≡ n) × (is_below x z ≡ true))
    go (inl a) (inl b) = inl (omega arith)
    go (inl a) (inr b) = inl (omega arith)
    go (inr a) (inl b) = inl (omega arith)
    go (inr a) (inr b) = inr (a.0 ∙ b.0, below_trans x y z a.1 b.1)

pub not_first : (m n : ℕ) (x y : Bytes) → comes_first m x n y ≡ false → IsNoBetter m x n y
not_first m n x y h = ⊎_elim (λ e. inr (e, false_from_ne_true (is_below x y) (λ g. not_both (is_first m n x y (inr (e, g))) h))) (λ o. ⊎_elim (λ l. inl l) (λ g. not_both (is_first m n x y (inl g)) h) o) (cases_order m n)

first_up : (l m n : ℕ) (x y z : Bytes) → comes_first l x n z ≡ true → comes_first m y n z ≡ false → comes_first l x m y ≡ true
first_up l m n x y z h g = is_first l m x y (go (first_is l n x z h) (not_first m n y z g))
  where
    go : (n < l) ⊎ ((l ≡ n) × (is_below x z ≡ true)) → IsNoBetter m y n z → (m < l) ⊎ ((l ≡ m) × (is_below x y ≡ true))
    go (inl a) (inl b) = inl (omega arith)
    go (inl a) (inr b) = inl (omega arith)
    go (inr a) (inl b) = inl (omega arith)
    go (inr a) (inr b) = inr (a.0 ∙ sym b.0, below_up x y z a.1 b.1)

first_itself : (m : ℕ) (x : Bytes) → comes_first m x m x ≡ false
first_itself m x = false_from_ne_true _ (λ h. ⊎_elim (λ l. omega arith) (λ e. not_both e.1 (below_itself x)) (first_is m m x x h))

pub by_end_and_name : {A : Type 0} (end : A → ℕ) (name : A → Bytes) → IsOrder (λ a b. comes_first (end a) (name a) (end b) (name b))
by_end_and_name end name = record {
  itself = λ x. first_itself (end x) (name x);
  trans = λ x y z. first_trans (end x) (end y) (end z) (name x) (name y) (name z);
  up = λ x y z. first_up (end x) (end y) (end z) (name x) (name y) (name z);
}
