-- Which ranges overlap, in whatever order they stand.
use Rattle.std.proofs.Common.{◌≡◌, ℕ, zero, suc, ◌+◌, ◌<◌, length, get_or, take, drop, subst, arith, Bool, true, false, not, ◌&&◌, ◌||◌, cond, List, [], ◌∷◌, Option, Some, None, refl, sym, ap, ◌∙◌, is_some}
use Rattle.std.specs.List.{slice_get}
use Rattle.std.proofs.lemmas.Option.{slice_get_read}
use Rattle.fb_bytes.specs.Bytes.{is_below}
use Rattle.fb_bytes.specs.declared.KeyRange.{KeyRange}
use Rattle.mutations.proofs.Basics.{by_test, not_both, not_false}
use Rattle.restore_apply.specs.Loaded.{LoadedFile, range_of}
use Rattle.fb_bytes.specs.Keys.{overlaps}
use Rattle.restore_apply.specs.Overlaps.{At, overlaps_some, numbered, placed, in_order, overlapping, overlaps_file, are_apart, first_overlap}
use Rattle.restore_apply.specs.Laws.{OverlapLaw}

-- ---- tests

and_swap : (a b : Bool) → (a && b) ≡ (b && a)
and_swap true true = refl
and_swap true false = refl
and_swap false true = refl
and_swap false false = refl

or_first : (a b c : Bool) → (a || (b || c)) ≡ (b || (a || c))
or_first true true c = refl
or_first true false c = refl
or_first false true c = refl
or_first false false c = refl

turned : (p q r s : Bool) → (not (p || q) && (not r && s)) ≡ (not (p || r) && (not q && s))
turned true q r s = refl
turned false true true s = refl
turned false true false s = refl
turned false false true s = refl
turned false false false s = refl

moved : (c f a : Bool) → ((not c && f) && a) ≡ (f && (not c && a))
moved true true a = refl
moved true false a = refl
moved false true a = refl
moved false false a = refl

-- ---- overlaps

pub overlaps_back : (a b : KeyRange) → overlaps a b ≡ overlaps b a
overlaps_back a b = and_swap (is_below a.begin b.end) (is_below b.begin a.end)

some_placed : (r : KeyRange) (x : At) (xs : List At) → overlaps_some r (placed x xs) ≡ (overlaps r x.range || overlaps_some r xs)
some_placed r x [] = refl
some_placed r x (y ∷ ys) = by_test (is_below y.range.begin x.range.begin) (λ (zs : List At). overlaps_some r zs ≡ (overlaps r x.range || overlaps_some r (y ∷ ys))) (y ∷ placed x ys) (x ∷ y ∷ ys)
    (λ e. ap (λ t. overlaps r y.range || t) (some_placed r x ys) ∙ or_first (overlaps r y.range) (overlaps r x.range) (overlaps_some r ys))
    (λ e. refl)

pub some_in_order : (r : KeyRange) (xs : List At) → overlaps_some r (in_order xs) ≡ overlaps_some r xs
some_in_order r [] = refl
some_in_order r (x ∷ xs) = some_placed r x (in_order xs) ∙ ap (λ t. overlaps r x.range || t) (some_in_order r xs)

some_numbered : (r : KeyRange) (n : ℕ) (files : List LoadedFile) → overlaps_some r (numbered n files) ≡ overlaps_file r files
some_numbered r n [] = refl
some_numbered r n (file ∷ files) = ap (λ t. overlaps r (range_of file) || t) (some_numbered r (n + 1) files)

-- no two overlap
abbrev pub apart_all : List At → Bool
apart_all [] = true
apart_all (x ∷ xs) = not (overlaps_some x.range xs) && apart_all xs

apart_placed : (x : At) (xs : List At) → apart_all (placed x xs) ≡ (not (overlaps_some x.range xs) && apart_all xs)
apart_placed x [] = refl
apart_placed x (y ∷ ys) = by_test (is_below y.range.begin x.range.begin) (λ (zs : List At). apart_all zs ≡ (not (overlaps_some x.range (y ∷ ys)) && apart_all (y ∷ ys))) (y ∷ placed x ys) (x ∷ y ∷ ys)
    (λ e. ap (λ t. not t && apart_all (placed x ys)) (some_placed y.range x ys ∙ ap (λ t. t || overlaps_some y.range ys) (overlaps_back y.range x.range))
    ∙ ap (λ t. not (overlaps x.range y.range || overlaps_some y.range ys) && t) (apart_placed x ys)
    ∙ turned (overlaps x.range y.range) (overlaps_some y.range ys) (overlaps_some x.range ys) (apart_all ys))
    (λ e. refl)

pub apart_in_order : (xs : List At) → apart_all (in_order xs) ≡ apart_all xs
apart_in_order [] = refl
apart_in_order (x ∷ xs) = apart_placed x (in_order xs) ∙ ap (λ t. not t && apart_all (in_order xs)) (some_in_order x.range xs) ∙ ap (λ t. not (overlaps_some x.range xs) && t) (apart_in_order xs)

pub apart_numbered : (n : ℕ) (files : List LoadedFile) → apart_all (numbered n files) ≡ are_apart files
apart_numbered n [] = refl
apart_numbered n (file ∷ files) = ap (λ t. not t && apart_all (numbered (n + 1) files)) (some_numbered (range_of file) (n + 1) files) ∙ ap (λ t. not (overlaps_file (range_of file) files) && t) (apart_numbered (n + 1) files)

-- ---- the first that overlaps one before it

-- none overlaps one of those before
abbrev apart_from : List At → List At → Bool
apart_from before [] = true
apart_from before (x ∷ xs) = not (overlaps_some x.range before) && apart_from before xs

from_more : (x : At) (before xs : List At) → apart_from (x ∷ before) xs ≡ (not (overlaps_some x.range xs) && apart_from before xs)
from_more x before [] = refl
from_more x before (y ∷ ys) =
    ap (λ t. not (t || overlaps_some y.range before) && apart_from (x ∷ before) ys) (overlaps_back y.range x.range)
    ∙ ap (λ t. not (overlaps x.range y.range || overlaps_some y.range before) && t) (from_more x before ys)
    ∙ turned (overlaps x.range y.range) (overlaps_some y.range before) (overlaps_some x.range ys) (apart_from before ys)

from_none : (xs : List At) → apart_from [] xs ≡ true
from_none [] = refl
from_none (x ∷ xs) = from_none xs

first_step : (b f c a : Bool) (x : At) (o : Option At) → is_some o ≡ not ((not c && f) && a) → is_some (cond b (Some x) o) ≡ not ((not b && f) && (not c && a))
first_step true f c a x o h = refl
first_step false f c a x o h = h ∙ ap not (moved c f a)

finds_overlap : (before xs : List At) → is_some (overlapping before xs) ≡ not (apart_from before xs && apart_all xs)
finds_overlap before [] = refl
finds_overlap before (x ∷ xs) = first_step (overlaps_some x.range before) (apart_from before xs) (overlaps_some x.range xs) (apart_all xs) x (overlapping (x ∷ before) xs)
    (finds_overlap (x ∷ before) xs ∙ ap (λ t. not (t && apart_all xs)) (from_more x before xs))

finds_first : (files : List LoadedFile) → is_some (first_overlap files) ≡ not (are_apart files)
finds_first files =
    let xs = in_order (numbered 0 files) in
    finds_overlap [] xs ∙ ap (λ t. not (t && apart_all xs)) (from_none xs) ∙ ap not (apart_in_order (numbered 0 files) ∙ apart_numbered 0 files)

none_of : (o : Option At) → is_some o ≡ false → o ≡ None
none_of None h = refl
none_of (Some x) h = not_both refl h

pub overlap_law : OverlapLaw
overlap_law files = (
  λ h. not_false (are_apart files) (sym (finds_first files) ∙ ap (is_some {T = At}) h),
  λ h. none_of (first_overlap files) (finds_first files ∙ ap not h),
)

-- ---- the search for it

-- how far the ranges were looked at
abbrev pub Searched : List At → ℕ → Type 0
Searched order i = (before : List At) × ((r : KeyRange) → overlaps_some r before ≡ overlaps_some r (take i order)) × (overlapping before (drop i order) ≡ overlapping [] order)

some_take : (r : KeyRange) (order : List At) (i : ℕ) (x : At) → slice_get order i ≡ Some x → overlaps_some r (take (suc i) order) ≡ (overlaps r x.range || overlaps_some r (take i order))
some_take r [] i x h = cc
some_take r (y ∷ ys) zero x h = let e : y ≡ x = cc in ap (λ (z : At). overlaps r z.range || false) e
some_take r (y ∷ ys) (suc i) x h = ap (λ t. overlaps r y.range || t) (some_take r ys i x h) ∙ or_first (overlaps r y.range) (overlaps r x.range) (overlaps_some r (take i ys))

pub drop_at : {X : Type 0} (xs : List X) (i : ℕ) (x : X) → slice_get xs i ≡ Some x → drop i xs ≡ x ∷ drop (suc i) xs
drop_at [] i x h = cc
drop_at (y ∷ ys) zero x h = let e : y ≡ x = cc in ap (λ z. z ∷ ys) e
drop_at (y ∷ ys) (suc i) x h = drop_at ys i x h

pub searched_next : (order : List At) (i : ℕ) (x : At) (b : Bool) → i < length order → x ≡ get_or order i x → b ≡ overlaps_some x.range (take i order) → b ≡ false → Searched order i → Searched order (i + 1)
searched_next order i x b l h e f (before, same, rest) =
    let here = slice_get_read order (length order) i x refl l h in
    let apart : overlaps_some x.range before ≡ false = same x.range ∙ sym e ∙ f in
    let next : Searched order (suc i) = (
      x ∷ before,
      λ r. ap (λ t. overlaps r x.range || t) (same r) ∙ sym (some_take r order i x here),
      sym (ap (overlapping before) (drop_at order i x here) ∙ ap (λ t. cond t (Some x) (overlapping (x ∷ before) (drop (suc i) order))) apart) ∙ rest,
    ) in
    let one : suc i ≡ i + 1 = omega arith in
    subst (Searched order) one next
