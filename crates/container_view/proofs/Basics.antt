-- Options, and the best of a list.
use Rattle.std.proofs.Common.{◌≡◌, Bool, true, false, cond, List, [], ◌∷◌, if◌then◌else◌, Option, Some, None, ◌⊎◌, inl, inr, refl, sym, ap, ◌∙◌, subst}
use Rattle.fb_bytes.specs.Options.{IsIn, each_of, better_of, best_of}
use Rattle.mutations.proofs.Basics.{by_test}
pub use Rattle.fb_bytes.proofs.Options.{bind_some}

-- ---- each_of

pub each_of_in : {A B : Type 0} (f : A → Option B) (xs : List A) (ys : List B) → each_of f xs ≡ Some ys → (y : B) → IsIn y ys → (x : A) × IsIn x xs × (f x ≡ Some y)
each_of_in f [] ys e y i = let n : ys ≡ [] = cc in absurd (subst (λ l. IsIn y l) n i)
each_of_in {A = A} {B = B} f (x ∷ xs) ys e y i =
    let h = bind_some (f x) _ ys e in
    let t = bind_some (each_of f xs) _ ys h.2 in
    let n : ys ≡ h.0 ∷ t.0 = cc (t.2) in
    go h.0 t.0 h.1 (each_of_in f xs t.0 t.1 y) (subst (λ l. IsIn y l) n i)
  where
    go : (z : B) (zs : List B) → f x ≡ Some z → (IsIn y zs → (w : A) × IsIn w xs × (f w ≡ Some y)) → IsIn y (z ∷ zs) → (w : A) × IsIn w (x ∷ xs) × (f w ≡ Some y)
    go z zs p ih (inl s) = (x, inl refl, p ∙ ap Some (sym s))
    go z zs p ih (inr j) = let r = ih j in (r.0, inr r.1, r.2)

-- ---- the best of those that pass

module _ {A : Type 0} (passes : A → Bool) (beats : A → A → Bool) where
  pub better_is : (x : A) (o : Option A) → (better_of beats x o ≡ x) ⊎ ((y : A) × (o ≡ Some y) × (better_of beats x o ≡ y))
  better_is x None = inl refl
  better_is x (Some y) = by_test (beats y x) (λ z. (z ≡ x) ⊎ ((w : A) × (Some y ≡ Some w) × (z ≡ w))) y x (λ e. inr (y, refl, refl)) (λ e. inl refl)

  abbrev Found : List A → Option A → Type 0
  Found xs o = (y : A) → o ≡ Some y → (passes y ≡ true) × IsIn y xs

  best_of_step : (x : A) (xs : List A) (o : Option A) → Found xs o → Found (x ∷ xs) (if passes x then Some (better_of beats x o) else o)
  best_of_step x xs o ih y e = go (passes x) refl e
    where
      at : passes x ≡ true → (better_of beats x o ≡ x) ⊎ ((w : A) × (o ≡ Some w) × (better_of beats x o ≡ w)) → better_of beats x o ≡ y → (passes y ≡ true) × IsIn y (x ∷ xs)
      at p (inl q) r = let s : y ≡ x = sym r ∙ q in (ap passes s ∙ p, inl s)
      at p (inr q) r = let s = ih y (q.1 ∙ ap Some (sym q.2 ∙ r)) in (s.0, inr s.1)

      go : (b : Bool) → passes x ≡ b → cond b (Some (better_of beats x o)) o ≡ Some y → (passes y ≡ true) × IsIn y (x ∷ xs)
      go true p q = let r : better_of beats x o ≡ y = cc in at p (better_is x o) r
      go false p q = let s = ih y q in (s.0, inr s.1)

  pub best_of_in : (xs : List A) (y : A) → best_of passes beats xs ≡ Some y → (passes y ≡ true) × IsIn y xs
  best_of_in [] y e = cc
  best_of_in (x ∷ xs) y e = best_of_step x xs (best_of passes beats xs) (best_of_in xs) y e
