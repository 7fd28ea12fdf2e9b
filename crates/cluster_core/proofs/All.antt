-- Facts of each item of a list, and of each job at its place.
use Rattle.std.specs.Prelude.{◌≡◌, ◌≢◌, ℕ, zero, suc, Bool, true, false, List, [], ◌∷◌, ◌++◌, length, map, Some, slice_get, slice_set, refl}
use Rattle.std.specs.List.{AllByRecursion}
use Rattle.std.proofs.Common.{sym, ◌∙◌, inl, inr, subst}
use Rattle.std.proofs.lemmas.Bool.{cond_both}
use Rattle.fb_bytes.specs.Bytes.{Bytes, is_same}
use Rattle.fb_bytes.proofs.Order.{same_eq}
use Rattle.snapshot_plan.specs.Noted.{placed}
use Rattle.snapshot_plan.specs.Listing.{AreDistinct}
use Rattle.cluster_core.proofs.Lists.{get_set_same, get_set_other, same_or_other}

-- ---- one more item

pub all_placed : {X : Type 0} (P : X → Type 0) (before : X → Bool) (x : X) (xs : List X) → P x → AllByRecursion P xs → AllByRecursion P (placed before x xs)
all_placed P before x [] p a = (p, tt)
all_placed P before x (y ∷ ys) p a = cond_both (before y) _ _ (AllByRecursion P) (λ t. (a.0, all_placed P before x ys p a.1)) (λ f. (p, a))

-- strings that differ aren't the same
pub differ : (a b : Bytes) → (a ≡ b → ⊥) → is_same a b ≡ false
differ a b d = go (is_same a b) refl
  where
    go : (t : Bool) → is_same a b ≡ t → is_same a b ≡ false
    go true e = absurd (d (same_eq a b e))
    go false e = e

all_mapped : {X Y : Type 0} (P : Y → Type 0) (f : X → Y) (xs : List X) → AllByRecursion (λ x. P (f x)) xs → AllByRecursion P (map f xs)
all_mapped P f [] a = tt
all_mapped P f (x ∷ xs) a = (a.0, all_mapped P f xs a.1)

all_unmapped : {X Y : Type 0} (P : Y → Type 0) (f : X → Y) (xs : List X) → AllByRecursion P (map f xs) → AllByRecursion (λ x. P (f x)) xs
all_unmapped P f [] a = tt
all_unmapped P f (x ∷ xs) a = (a.0, all_unmapped P f xs a.1)

-- names stay distinct where one more comes that differs from each
pub distinct_placed : {X : Type 0} (name : X → Bytes) (before : X → Bool) (x : X) (xs : List X) → AllByRecursion (λ y. name y ≡ name x → ⊥) xs → AreDistinct (map name xs) → AreDistinct (map name (placed before x xs))
distinct_placed name before x [] d a = (tt, tt)
distinct_placed {X = X} name before x (y ∷ ys) d a =
    cond_both (before y) _ _ (λ zs. AreDistinct (map name zs))
    (λ t. (all_mapped (λ other. is_same (name y) other ≡ false) name (placed before x ys) (all_placed (λ z. is_same (name y) (name z) ≡ false) before x ys (differ (name y) (name x) d.0) (all_unmapped (λ other. is_same (name y) other ≡ false) name ys a.0)), distinct_placed name before x ys d.1 a.1))
    (λ f. (all_mapped (λ other. is_same (name x) other ≡ false) name (y ∷ ys) (each_differs (y ∷ ys) d), a))
  where
    each_differs : (zs : List X) → AllByRecursion (λ z. name z ≡ name x → ⊥) zs → AllByRecursion (λ z. is_same (name x) (name z) ≡ false) zs
    each_differs [] h = tt
    each_differs (z ∷ zs) h = (differ (name x) (name z) (λ e. h.0 (sym e)), each_differs zs h.1)

-- ---- items at their places

-- a fact of each item stands where the one at a place is exchanged for another of which it holds
pub each_set : {X : Type 0} (P : ℕ → X → Type 0) (xs : List X) (n : ℕ) (old new : X) → slice_get xs n ≡ Some old → P n new → ((m : ℕ) (x : X) → n ≢ m → slice_get xs m ≡ Some x → P m x) → (m : ℕ) (x : X) → slice_get (slice_set xs n new) m ≡ Some x → P m x
each_set {X = X} P xs n old new at here there m x h =
    elim (same_or_other n m) [
      | inl e ↦ subst (λ (k : ℕ). slice_get (slice_set xs n new) k ≡ Some x → P k x) e (λ g. let same : new ≡ x = cc (get_set_same xs n old new at) in subst (λ (y : X). P n y) same here) h
      | inr d ↦ there m x d (sym (get_set_other xs n m new d) ∙ h)
    ]

-- and where one more comes at the end
pub each_more : {X : Type 0} (P : ℕ → X → Type 0) (xs : List X) (new : X) → P (length xs) new → ((m : ℕ) (x : X) → slice_get xs m ≡ Some x → P m x) → (m : ℕ) (x : X) → slice_get (xs ++ new ∷ []) m ≡ Some x → P m x
each_more {X = X} P [] new here there zero x h = let same : new ≡ x = cc in subst (λ (y : X). P zero y) same here
each_more P [] new here there (suc m) x h = cc
each_more P (y ∷ ys) new here there zero x h = there zero x h
each_more P (y ∷ ys) new here there (suc m) x h = each_more (λ k z. P (suc k) z) ys new here (λ k z e. there (suc k) z e) m x h
