-- The task that a claim picks, found by going over the uids as they rise.
use Rattle.std.proofs.Common.{◌≡◌, ℕ, ◌<◌, Bool, true, false, cond, ltb, leb, List, [], ◌∷◌, ◌++◌, Option, Some, None, refl, sym, ap, subst, ◌∙◌, arith, inl, inr}
use Rattle.std.proofs.lemmas.Bool.{lt-ltb, le-ltb, le-leb, leb-true, cases_lt}
use Rattle.fb_bytes.specs.Options.{IsIn, better_of, best_of}
use Rattle.task_bucket.specs.Lists.{Slot}
use Rattle.task_bucket.specs.Claims.{has_greater_uid, has_lesser_uid, is_at_or_below, or_least, picked}

-- all of these have lesser uids
abbrev pub AreBelow : ℕ → List Slot → Type 0
AreBelow uid [] = Unit {0}
AreBelow uid (s ∷ ss) = (s.uid < uid) × AreBelow uid ss

abbrev greatest : ℕ → List Slot → Option Slot
greatest pick slots = best_of (is_at_or_below pick) has_greater_uid slots

abbrev least : List Slot → Option Slot
least slots = best_of (λ s. true) has_lesser_uid slots

greatest_push : (pick : ℕ) (xs : List Slot) (y : Slot) → AreBelow y.uid xs → greatest pick (xs ++ y ∷ []) ≡ cond (leb y.uid pick) (Some y) (greatest pick xs)
greatest_push pick [] y h = go (leb y.uid pick)
  where
    go : (b : Bool) → cond b (Some (better_of has_greater_uid y None)) None ≡ cond b (Some y) None
    go true = refl
    go false = refl
greatest_push pick (x ∷ xs) y h =
    ap (λ (o : Option Slot). cond (leb x.uid pick) (Some (better_of has_greater_uid x o)) o) (greatest_push pick xs y h.1) ∙ go (leb y.uid pick) refl
  where
    go : (b : Bool) → leb y.uid pick ≡ b → cond (leb x.uid pick) (Some (better_of has_greater_uid x (cond b (Some y) (greatest pick xs)))) (cond b (Some y) (greatest pick xs)) ≡ cond b (Some y) (cond (leb x.uid pick) (Some (better_of has_greater_uid x (greatest pick xs))) (greatest pick xs))
    go true is =
        let low = leb-true _ _ is in
        let below : leb x.uid pick ≡ true = le-leb x.uid pick (omega (arith, h.0)) in
        rw (below, lt-ltb x.uid y.uid h.0) refl
    go false is = refl

-- the later one, if it isn't past the pick or is the first
abbrev pub step_of : ℕ → Slot → Option Slot → Option Slot
step_of pick slot None = Some slot
step_of pick slot (Some best) = cond (ltb pick slot.uid) (Some best) (Some slot)

-- the one, else the other
abbrev else_one : Option Slot → Slot → Slot
else_one None y = y
else_one (Some x) y = x

least_push : (xs : List Slot) (y : Slot) → AreBelow y.uid xs → least (xs ++ y ∷ []) ≡ Some (else_one (least xs) y)
least_push [] y h = refl
least_push (x ∷ xs) y h = ap (λ (o : Option Slot). Some (better_of has_lesser_uid x o)) (least_push xs y h.1) ∙ go (least xs)
  where
    go : (o : Option Slot) → Some (better_of has_lesser_uid x (Some (else_one o y))) ≡ Some (better_of has_lesser_uid x o)
    go None = ap (λ (b : Bool). Some (cond b y x)) (le-ltb y.uid x.uid (omega (arith, h.0)))
    go (Some z) = refl

pub picked_push : (pick : ℕ) (xs : List Slot) (y : Slot) → AreBelow y.uid xs → picked pick (xs ++ y ∷ []) ≡ step_of pick y (picked pick xs)
picked_push pick xs y h =
    ap (λ (o : Option Slot). or_least o (xs ++ y ∷ [])) (greatest_push pick xs y h) ∙ go (leb y.uid pick) refl (greatest pick xs)
  where
    stays : (o : Option Slot) → leb y.uid pick ≡ true → Some y ≡ step_of pick y o
    stays None is = refl
    stays (Some z) is = sym (ap (λ (b : Bool). cond b (Some z) (Some y)) (le-ltb pick y.uid (leb-true _ _ is)))

    past : leb y.uid pick ≡ false → ltb pick y.uid ≡ true
    past is = elim (cases_lt pick y.uid) [
      | inl lt ↦ lt-ltb pick y.uid lt
      | inr le ↦ absurd (let e : true ≡ false = sym (le-leb y.uid pick le) ∙ is in cc)
    ]

    first : (o : Option Slot) → ltb pick y.uid ≡ true → Some (else_one o y) ≡ step_of pick y o
    first None is = refl
    first (Some z) is = sym (ap (λ (b : Bool). cond b (Some z) (Some y)) is)

    go : (b : Bool) → leb y.uid pick ≡ b → (o : Option Slot) → or_least (cond b (Some y) o) (xs ++ y ∷ []) ≡ step_of pick y (or_least o xs)
    go true is o = stays (or_least o xs) is
    go false is None = least_push xs y h ∙ first (least xs) (past is)
    go false is (Some z) = sym (ap (λ (b : Bool). cond b (Some z) (Some y)) (past is))

-- ---- one of them

better_in : (beats : Slot → Slot → Bool) (x : Slot) (o : Option Slot) (xs : List Slot) → ((z : Slot) → o ≡ Some z → IsIn z xs) → IsIn (better_of beats x o) (x ∷ xs)
better_in beats x None xs h = inl refl
better_in beats x (Some z) xs h = go (beats z x)
  where
    go : (b : Bool) → IsIn (cond b z x) (x ∷ xs)
    go true = inr (h z refl)
    go false = inl refl

best_in : (passes : Slot → Bool) (beats : Slot → Slot → Bool) (xs : List Slot) (s : Slot) → best_of passes beats xs ≡ Some s → IsIn s xs
best_in passes beats [] s e = absurd cc
best_in passes beats (x ∷ xs) s e = go (passes x) (best_in passes beats xs) e
  where
    go : (b : Bool) → ((z : Slot) → best_of passes beats xs ≡ Some z → IsIn z xs) → cond b (Some (better_of beats x (best_of passes beats xs))) (best_of passes beats xs) ≡ Some s → IsIn s (x ∷ xs)
    go true ih e = let is : better_of beats x (best_of passes beats xs) ≡ s = cc in subst (λ (z : Slot). IsIn z (x ∷ xs)) is (better_in beats x (best_of passes beats xs) xs ih)
    go false ih e = inr (ih s e)

pub picked_in : (pick : ℕ) (xs : List Slot) (s : Slot) → picked pick xs ≡ Some s → IsIn s xs
picked_in pick xs s e = go (greatest pick xs) (best_in (is_at_or_below pick) has_greater_uid xs) e
  where
    go : (o : Option Slot) → ((z : Slot) → o ≡ Some z → IsIn z xs) → or_least o xs ≡ Some s → IsIn s xs
    go None h e = best_in (λ s. true) has_lesser_uid xs s e
    go (Some z) h e = h s e
