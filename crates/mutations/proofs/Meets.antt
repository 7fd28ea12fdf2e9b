-- The ranges that a clear may meet stand side by side, and those in front and behind leave nothing of it.
use Rattle.std.proofs.Common.{◌≡◌, ℕ, zero, suc, ◌+◌, ◌-◌, ◌<◌, ◌≤◌, Bool, true, false, not, List, [], ◌∷◌, ◌++◌, length, get_or, take, drop, refl, sym, ap, subst, ◌∙◌, arith}
use Rattle.std.specs.List.{prefix_len}
use Rattle.std.specs.List.Sorted.{IsPartitionedBy, IsPartitionPoint}
use Rattle.std.proofs.lemmas.Bool.{and_parts, cond-true, cond-false}
use Rattle.std.proofs.lemmas.List.{take_all, length-drop}
use Rattle.std.proofs.lemmas.List.Sums.{prefix_len_is}
use Rattle.fb_bytes.specs.Bytes.{Bytes, is_below}
use Rattle.fb_bytes.specs.declared.KeyRange.{KeyRange}
use Rattle.fb_bytes.specs.Keys.{AreSeparate}
use Rattle.fb_bytes.specs.inner.Keys.{is_passed}
use Rattle.fb_bytes.proofs.Order.{below_trans, below_down, below_itself}
use Rattle.mutations.specs.declared.mutation.Mutation.{Mutation}
use Rattle.mutations.specs.Effects.{range_of, later, earlier}
use Rattle.mutations.specs.Clipping.{cut_to, clear_cut}
use Rattle.mutations.specs.inner.Clipping.{begins_before}
use Rattle.mutations.proofs.Basics.{not_both, not_true, not_false}
use Rattle.mutations.proofs.Intersections.{later_below, below_earlier}

-- ---- one range

-- the later of two keys is before neither
not_before : (a b : Bytes) → (is_below (later a b) a ≡ false) × (is_below (later a b) b ≡ false)
not_before a b =
    let both = and_parts _ _ (sym (later_below a b (later a b)) ∙ ap not (below_itself (later a b))) in
    (not_true _ both.0, not_true _ both.1)

none_cut : (begin end : Bytes) (range : KeyRange) → is_below (later begin range.begin) (earlier end range.end) ≡ false → cut_to begin end range ≡ []
none_cut begin end range h = rw h refl

passed_cut : (begin end : Bytes) (range : KeyRange) → is_passed begin range ≡ true → cut_to begin end range ≡ []
passed_cut begin end range h = none_cut begin end range (go (is_below first (earlier end range.end)) refl)
  where
    first : Bytes
    first = later begin range.begin

    go : (b : Bool) → is_below first (earlier end range.end) ≡ b → is_below first (earlier end range.end) ≡ false
    go false e = e
    go true e =
        let both = and_parts _ _ (sym (below_earlier end range.end first) ∙ e) in
        not_both (below_down begin first range.end (not_before begin range.begin).0 both.1) (not_true _ h)

behind_cut : (begin end : Bytes) (range : KeyRange) → is_below range.begin end ≡ false → cut_to begin end range ≡ []
behind_cut begin end range h = none_cut begin end range (go (is_below first (earlier end range.end)) refl)
  where
    first : Bytes
    first = later begin range.begin

    go : (b : Bool) → is_below first (earlier end range.end) ≡ b → is_below first (earlier end range.end) ≡ false
    go false e = e
    go true e =
        let both = and_parts _ _ (sym (below_earlier end range.end first) ∙ e) in
        not_both (below_down range.begin first end (not_before begin range.begin).1 both.0) h

-- ---- ranges in front

-- one place further
one_more : (n : ℕ) → 1 + n ≡ suc n
one_more n = omega arith

pub without_passed : (begin end : Bytes) (ranges : List KeyRange) → clear_cut begin end (drop (prefix_len (is_passed begin) ranges) ranges) ≡ clear_cut begin end ranges
without_passed begin end [] = refl
without_passed begin end (x ∷ xs) = go (is_passed begin x) refl (without_passed begin end xs)
  where
    count : ℕ
    count = prefix_len (is_passed begin) xs

    go : (b : Bool) → is_passed begin x ≡ b → clear_cut begin end (drop count xs) ≡ clear_cut begin end xs
        → clear_cut begin end (drop (prefix_len (is_passed begin) (x ∷ xs)) (x ∷ xs)) ≡ clear_cut begin end (x ∷ xs)
    go true e ih =
        ap (λ n. clear_cut begin end (drop n (x ∷ xs))) (cond-true (is_passed begin x) (1 + count) 0 e ∙ one_more count)
        ∙ ih ∙ ap (λ (muts : List Mutation). muts ++ clear_cut begin end xs) (sym (passed_cut begin end x e))
    go false e ih = ap (λ n. clear_cut begin end (drop n (x ∷ xs))) (cond-false (is_passed begin x) (1 + count) 0 e)

-- ---- ranges behind

-- the next range begins past the begin of the first
begins_rise : (x y : KeyRange) (ys : List KeyRange) → AreSeparate (x ∷ y ∷ ys) → is_below x.begin y.begin ≡ true
begins_rise x y ys s = below_trans x.begin x.end y.begin (not_false _ s.0) s.1

-- where a range doesn't begin before the key, the next one doesn't
next_behind : (key : Bytes) (x y : KeyRange) (ys : List KeyRange) → AreSeparate (x ∷ y ∷ ys) → is_below x.begin key ≡ false → is_below y.begin key ≡ false
next_behind key x y ys s h = go (is_below y.begin key) refl
  where
    go : (b : Bool) → is_below y.begin key ≡ b → is_below y.begin key ≡ false
    go false e = e
    go true e = not_both (below_trans x.begin y.begin key (begins_rise x y ys s) e) h

none_behind : (begin end : Bytes) (x : KeyRange) (xs : List KeyRange) → AreSeparate (x ∷ xs) → is_below x.begin end ≡ false → clear_cut begin end (x ∷ xs) ≡ []
none_behind begin end x [] s h = ap (λ (muts : List Mutation). muts ++ []) (behind_cut begin end x h)
none_behind begin end x (y ∷ ys) s h =
    ap (λ (muts : List Mutation). muts ++ clear_cut begin end (y ∷ ys)) (behind_cut begin end x h)
    ∙ none_behind begin end y ys s.2 (next_behind end x y ys s h)

pub without_behind : (begin end : Bytes) (ranges : List KeyRange) → AreSeparate ranges → clear_cut begin end (take (prefix_len (begins_before end) ranges) ranges) ≡ clear_cut begin end ranges
without_behind begin end [] s = refl
without_behind begin end (x ∷ xs) s = go (is_below x.begin end) refl (without_behind begin end xs s.2)
  where
    count : ℕ
    count = prefix_len (begins_before end) xs

    go : (b : Bool) → is_below x.begin end ≡ b → clear_cut begin end (take count xs) ≡ clear_cut begin end xs
        → clear_cut begin end (take (prefix_len (begins_before end) (x ∷ xs)) (x ∷ xs)) ≡ clear_cut begin end (x ∷ xs)
    go true e ih =
        ap (λ n. clear_cut begin end (take n (x ∷ xs))) (cond-true (is_below x.begin end) (1 + count) 0 e ∙ one_more count)
        ∙ ap (λ (muts : List Mutation). cut_to begin end x ++ muts) ih
    go false e ih =
        ap (λ n. clear_cut begin end (take n (x ∷ xs))) (cond-false (is_below x.begin end) (1 + count) 0 e)
        ∙ sym (none_behind begin end x xs s e)

-- ---- both

pub separate-drop : (n : ℕ) (ranges : List KeyRange) → AreSeparate ranges → AreSeparate (drop n ranges)
separate-drop zero ranges s = s
separate-drop (suc n) [] s = tt
separate-drop (suc n) (x ∷ xs) s = separate-drop n xs s.2

-- what stands behind a place, as a slice
abbrev behind : ℕ → List KeyRange → List KeyRange
behind n ranges = take (length ranges - n) (drop n ranges)

behind_is : (n : ℕ) (ranges : List KeyRange) → behind n ranges ≡ drop n ranges
behind_is n ranges = take_all (length ranges - n) (drop n ranges) (omega (arith, length-drop n ranges))

pub separate_behind : (n : ℕ) (ranges : List KeyRange) → AreSeparate ranges → AreSeparate (take (length ranges - n) (drop n ranges))
separate_behind n ranges s = subst AreSeparate (sym (behind_is n ranges)) (separate-drop n ranges s)

pub met_alone : (begin end : Bytes) (ranges : List KeyRange) (passed begun : ℕ) → AreSeparate ranges → passed ≡ prefix_len (is_passed begin) ranges
    → begun ≡ prefix_len (begins_before end) (take (length ranges - passed) (drop passed ranges))
    → clear_cut begin end (take begun (take (length ranges - passed) (drop passed ranges))) ≡ clear_cut begin end ranges
met_alone begin end ranges passed begun s p b =
    let rest = behind passed ranges in
    ap (λ n. clear_cut begin end (take n rest)) b
    ∙ without_behind begin end rest (separate_behind passed ranges s)
    ∙ ap (clear_cut begin end) (behind_is passed ranges)
    ∙ ap (λ n. clear_cut begin end (drop n ranges)) p
    ∙ without_passed begin end ranges

-- ---- where halving may look

-- what fails at a range fails at the next one
abbrev Falls : (KeyRange → Bool) → Type 0
Falls p = (x y : KeyRange) (ys : List KeyRange) → AreSeparate (x ∷ y ∷ ys) → p x ≡ false → p y ≡ false

module _ (p : KeyRange → Bool) (falls : Falls p) where
  later_fails : (x : KeyRange) (xs : List KeyRange) (j : ℕ) (d : KeyRange) → AreSeparate (x ∷ xs) → p x ≡ false → j < length xs → p (get_or xs j d) ≡ false
  later_fails x [] j d s h lt = absurd (omega arith)
  later_fails x (y ∷ ys) zero d s h lt = falls x y ys s h
  later_fails x (y ∷ ys) (suc j) d s h lt = later_fails y ys j d s.2 (falls x y ys s h) (omega arith)

  parted : (ranges : List KeyRange) → AreSeparate ranges → IsPartitionedBy p ranges
  parted [] s i j d le lt e = absurd (omega arith)
  parted (x ∷ xs) s zero zero d le lt e = e
  parted (x ∷ xs) s zero (suc j) d le lt e = go (p x) refl
    where
      go : (b : Bool) → p x ≡ b → p x ≡ true
      go true t = t
      go false f = not_both e (later_fails x xs j d s f (omega arith))
  parted (x ∷ xs) s (suc i) zero d le lt e = absurd (omega arith)
  parted (x ∷ xs) s (suc i) (suc j) d le lt e = parted xs s.2 i j d (omega arith) (omega arith) e

-- the next range ends past the end of the first
ends_rise : (x y : KeyRange) (ys : List KeyRange) → AreSeparate (x ∷ y ∷ ys) → is_below x.end y.end ≡ true
ends_rise x y ys s = below_trans x.end y.begin y.end s.1 (not_false _ s.2.0)

passed_falls : (key : Bytes) → Falls (is_passed key)
passed_falls key x y ys s h = ap not (below_trans key x.end y.end (not_false _ h) (ends_rise x y ys s))

pub passed_parted : (key : Bytes) (ranges : List KeyRange) → AreSeparate ranges → IsPartitionedBy (is_passed key) ranges
passed_parted key = parted (is_passed key) (passed_falls key)

pub begins_parted : (key : Bytes) (ranges : List KeyRange) → AreSeparate ranges → IsPartitionedBy (begins_before key) ranges
begins_parted key = parted (begins_before key) (next_behind key)

-- the point that halving finds
pub at_point : (p : KeyRange → Bool) (ranges : List KeyRange) (n : ℕ) → n ≤ length ranges → IsPartitionPoint (λ x. p x ≡ true) (λ x. p x ≡ false) ranges n → n ≡ prefix_len p ranges
at_point p ranges n le point =
    sym (prefix_len_is p ranges n (range_of [] []) le (λ k lt. point.0 k (range_of [] []) (omega arith) lt) (λ lt. point.1 n (range_of [] []) (omega arith) lt))
