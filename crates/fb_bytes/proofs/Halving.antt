-- A search by halving finds how many stand in front, and the one range that may have a key.
use Rattle.std.proofs.Common.{◌≡◌, ℕ, zero, suc, ◌+◌, ◌<◌, ◌≤◌, Bool, true, false, not, ◌&&◌, ◌||◌, List, [], ◌∷◌, length, get_or, refl, sym, ap, subst, ◌∙◌, arith}
use Rattle.std.specs.List.{prefix_len, AllByRecursion}
use Rattle.std.specs.List.Sorted.{IsPartitionedBy, IsPartitionPoint}
use Rattle.std.proofs.lemmas.Bool.{cond-true, cond-false}
use Rattle.fb_bytes.specs.Bytes.{Bytes, is_below}
use Rattle.fb_bytes.specs.Keys.{KeyRange, holds, in_ranges, AreSeparate}
use Rattle.fb_bytes.specs.inner.Keys.{is_passed}
use Rattle.fb_bytes.proofs.Order.{below_trans, below_not_back, not_both}
use Rattle.fb_bytes.proofs.Unions.{not_back}
use Rattle.fb_bytes.proofs.Separate.{before_rest}

-- ---- how many stand in front

one_more : (n : ℕ) → suc n ≡ 1 + n
one_more n = omega arith

pub halved : {A : Type 0} (p : A → Bool) (xs : List A) (i : ℕ) → i ≤ length xs → IsPartitionPoint (λ x. p x ≡ true) (λ x. p x ≡ false) xs i → i ≡ prefix_len p xs
halved p [] zero le h = refl
halved p [] (suc i) le h = absurd (omega arith)
halved p (x ∷ xs) zero le h = sym (cond-false (p x) (1 + prefix_len p xs) 0 (h.1 0 x (omega arith) (omega arith)))
halved p (x ∷ xs) (suc i) le h =
    ap suc (halved p xs i (omega arith) ((λ k d l u. h.0 (suc k) d (omega arith) (omega arith)), (λ k d l u. h.1 (suc k) d (omega arith) (omega arith))))
    ∙ one_more (prefix_len p xs)
    ∙ sym (cond-true (p x) (1 + prefix_len p xs) 0 (h.0 0 x (omega arith) (omega arith)))

-- once one fails, all behind it fail
abbrev pub Falls : {X : Type 0} → (X → Bool) → List X → Type 0
Falls p [] = Unit {0}
Falls p (x ∷ xs) = (p x ≡ false → AllByRecursion (λ y. p y ≡ false) xs) × Falls p xs

all_get : {X : Type 0} (P : X → Type 0) (xs : List X) (j : ℕ) (d : X) → j < length xs → AllByRecursion P xs → P (get_or xs j d)
all_get P [] j d lt h = absurd (omega arith)
all_get P (x ∷ xs) zero d lt h = h.0
all_get P (x ∷ xs) (suc j) d lt h = all_get P xs j d (omega arith) h.1

pub parted : {X : Type 0} (p : X → Bool) (xs : List X) → Falls p xs → IsPartitionedBy p xs
parted p [] h i j d le lt e = absurd (omega arith)
parted p (x ∷ xs) h zero zero d le lt e = e
parted p (x ∷ xs) h zero (suc j) d le lt e = go (p x) refl
  where
    go : (b : Bool) → p x ≡ b → p x ≡ true
    go true t = t
    go false f = not_both e (all_get (λ y. p y ≡ false) xs j d (omega arith) (h.0 f))
parted p (x ∷ xs) h (suc i) zero d le lt e = absurd (omega arith)
parted p (x ∷ xs) h (suc i) (suc j) d le lt e = parted p xs h.1 i j d (omega arith) (omega arith) e

-- ---- ranges in order

-- the ends rise
end_past : (x : KeyRange) (xs : List KeyRange) (j : ℕ) (d : KeyRange) → AreSeparate (x ∷ xs) → j < length xs → is_below x.end (get_or xs j d).end ≡ true
end_past x [] j d s lt = absurd (omega arith)
end_past x (y ∷ ys) zero d s lt = below_trans x.end y.begin y.end s.1 (not_back y s.2.0)
end_past x (y ∷ ys) (suc j) d s lt = below_trans x.end y.end (get_or ys j d).end (below_trans x.end y.begin y.end s.1 (not_back y s.2.0)) (end_past y ys j d s.2 (omega arith))

passed_before : (key a b : Bytes) → is_below a b ≡ true → not (is_below key b) ≡ true → not (is_below key a) ≡ true
passed_before key a b h e = go (is_below key a) refl
  where
    go : (t : Bool) → is_below key a ≡ t → not (is_below key a) ≡ true
    go false p = ap not p
    go true p = not_both e (ap not (below_trans key a b p h))

pub ends_parted : (key : Bytes) (ranges : List KeyRange) → AreSeparate ranges → IsPartitionedBy (is_passed key) ranges
ends_parted key [] s i j d le lt e = absurd (omega arith)
ends_parted key (x ∷ xs) s zero zero d le lt e = e
ends_parted key (x ∷ xs) s zero (suc j) d le lt e = passed_before key x.end (get_or xs j d).end (end_past x xs j d s (omega arith)) e
ends_parted key (x ∷ xs) s (suc i) zero d le lt e = absurd (omega arith)
ends_parted key (x ∷ xs) s (suc i) (suc j) d le lt e = ends_parted key xs s.2 i j d (omega arith) (omega arith) e

-- the range at a place has the key, where there is one
abbrev pub holds_there : List KeyRange → ℕ → Bytes → Bool
holds_there [] i key = false
holds_there (x ∷ xs) zero key = holds x key
holds_there (x ∷ xs) (suc i) key = holds_there xs i key

or_false : (b : Bool) → (b || false) ≡ b
or_false true = refl
or_false false = refl

and_false : (b : Bool) → (b && false) ≡ false
and_false true = refl
and_false false = refl

-- the first range that the key isn't past has the key where some range has it
pub there_in : (ranges : List KeyRange) (key : Bytes) → AreSeparate ranges → holds_there ranges (prefix_len (is_passed key) ranges) key ≡ in_ranges ranges key
there_in [] key s = refl
there_in (x ∷ xs) key s = go (is_below key x.end) refl (there_in xs key s.2)
  where
    go : (b : Bool) → is_below key x.end ≡ b → holds_there xs (prefix_len (is_passed key) xs) key ≡ in_ranges xs key
        → holds_there (x ∷ xs) (prefix_len (is_passed key) (x ∷ xs)) key ≡ in_ranges (x ∷ xs) key
    go true p ih =
        ap (λ n. holds_there (x ∷ xs) n key) (cond-false (is_passed key x) (1 + prefix_len (is_passed key) xs) 0 (ap not p))
        ∙ sym (ap (λ b. holds x key || b) (before_rest key x xs (below_not_back key x.end p) s) ∙ or_false (holds x key))
    go false p ih = rw p (ap (λ n. holds_there (x ∷ xs) n key) (sym (one_more (prefix_len (is_passed key) xs))) ∙ ih ∙ sym (ap (λ b. b || in_ranges xs key) (and_false (not (is_below key x.begin)))))

pub there_at : (ranges : List KeyRange) (i : ℕ) (key : Bytes) (d : KeyRange) → i < length ranges → holds_there ranges i key ≡ holds (get_or ranges i d) key
there_at [] i key d lt = absurd (omega arith)
there_at (x ∷ xs) zero key d lt = refl
there_at (x ∷ xs) (suc i) key d lt = there_at xs i key d (omega arith)

pub there_none : (ranges : List KeyRange) (i : ℕ) (key : Bytes) → length ranges ≤ i → holds_there ranges i key ≡ false
there_none [] i key le = refl
there_none (x ∷ xs) zero key le = absurd (omega arith)
there_none (x ∷ xs) (suc i) key le = there_none xs i key (omega arith)

pub found_in : (list ranges : List KeyRange) (i : ℕ) (key : Bytes) (x : KeyRange) → list ≡ ranges → AreSeparate ranges → i ≡ prefix_len (is_passed key) list
    → i < length list → x ≡ get_or list i x → holds x key ≡ in_ranges ranges key
found_in list ranges i key x e s p lt is =
    ap (λ r. holds r key) is ∙ sym (there_at list i key x lt) ∙ ap (λ n. holds_there list n key) p
    ∙ there_in list key (subst AreSeparate (sym e) s) ∙ ap (λ l. in_ranges l key) e

pub missing_in : (list ranges : List KeyRange) (i : ℕ) (key : Bytes) → list ≡ ranges → AreSeparate ranges → i ≡ prefix_len (is_passed key) list
    → length list ≤ i → false ≡ in_ranges ranges key
missing_in list ranges i key e s p le =
    sym (there_none list i key le) ∙ ap (λ n. holds_there list n key) p
    ∙ there_in list key (subst AreSeparate (sym e) s) ∙ ap (λ l. in_ranges l key) e
