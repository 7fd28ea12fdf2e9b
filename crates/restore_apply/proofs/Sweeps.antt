-- One pass over ranges in order finds the first that overlaps one before it.
use Rattle.std.proofs.Common.{◌≡◌, ℕ, suc, ◌+◌, ◌<◌, ◌≤◌, Bool, true, false, ◌&&◌, ◌||◌, cond, List, [], ◌∷◌, length, get_or, drop, Option, Some, None, refl, sym, ap, ◌∙◌, subst, arith}
use Rattle.std.specs.List.{AllByRecursion}
use Rattle.std.proofs.lemmas.Option.{slice_get_read}
use Rattle.std.proofs.Math.ListN.{drop_of_length-le}
use Rattle.fb_bytes.specs.Bytes.{is_below}
use Rattle.fb_bytes.specs.declared.KeyRange.{KeyRange}
use Rattle.fb_bytes.specs.Keys.{overlaps, is_backwards}
use Rattle.fb_bytes.proofs.Order.{below_down}
use Rattle.mutations.proofs.Basics.{not_true, not_false}
use Rattle.restore_apply.specs.Overlaps.{At, overlaps_some, overlapping}
use Rattle.restore_apply.specs.inner.Overlaps.{AreOrdered, overlaps_last, further}
use Rattle.restore_apply.proofs.Apart.{drop_at}
use Rattle.restore_apply.proofs.Lines.{other, not_below}

-- the range begins no earlier than the last one
abbrev BeginsFrom : Option KeyRange → KeyRange → Type 0
BeginsFrom None range = Unit {0}
BeginsFrom (Some last) range = is_below range.begin last.begin ≡ false

-- the range overlaps one of those before exactly where it overlaps the last
abbrev Fits : List At → Option KeyRange → At → Type 0
Fits before last x = (overlaps_some x.range before ≡ overlaps_last x.range last) × BeginsFrom last x.range

behind_none : (x y : KeyRange) → is_below y.begin x.begin ≡ false → is_backwards x ≡ true → overlaps y x ≡ false
behind_none x y o b = ap (λ t. t && is_below x.begin y.end) (not_below x.end x.begin y.begin o (not_true (is_below x.begin x.end) b))

behind_last : (x y : KeyRange) (last : Option KeyRange) → is_below y.begin x.begin ≡ false → is_backwards x ≡ false → overlaps_last x last ≡ false → BeginsFrom last x → overlaps_last y last ≡ false
behind_last x y None o b n f = refl
behind_last x y (Some e) o b n f =
    let meets : is_below e.begin x.end ≡ true = below_down e.begin x.begin x.end f (not_false (is_below x.begin x.end) b) in
    let past : is_below x.begin e.end ≡ false = other (is_below e.begin x.end) (is_below x.begin e.end) (swap (is_below e.begin x.end) (is_below x.begin e.end) ∙ n) meets in
    ap (λ t. t && is_below e.begin y.end) (not_below e.end x.begin y.begin o past)
  where
    swap : (a b : Bool) → (a && b) ≡ (b && a)
    swap true true = refl
    swap true false = refl
    swap false true = refl
    swap false false = refl

or_false : (b : Bool) → (b || false) ≡ b
or_false true = refl
or_false false = refl

fits_next : (before : List At) (last : Option KeyRange) (x y : At) → is_below y.range.begin x.range.begin ≡ false → overlaps_last x.range last ≡ false → Fits before last x → Fits before last y → Fits (x ∷ before) (further x.range last) y
fits_next before last x y o n f g = go (is_backwards x.range) refl
  where
    go : (b : Bool) → is_backwards x.range ≡ b → Fits (x ∷ before) (cond b last (Some x.range)) y
    go true e = (ap (λ t. t || overlaps_some y.range before) (behind_none x.range y.range o e) ∙ g.0, g.1)
    go false e = (ap (λ t. overlaps y.range x.range || t) (g.0 ∙ behind_last x.range y.range last o e n f.1) ∙ or_false (overlaps y.range x.range), o)

fits_all : (before : List At) (last : Option KeyRange) (x : At) (ys : List At) → overlaps_last x.range last ≡ false → Fits before last x → AllByRecursion (λ y. is_below y.range.begin x.range.begin ≡ false) ys → AllByRecursion (Fits before last) ys → AllByRecursion (Fits (x ∷ before) (further x.range last)) ys
fits_all before last x [] n f o h = tt
fits_all before last x (y ∷ ys) n f o h = (fits_next before last x y o.0 n f h.0, fits_all before last x ys n f o.1 h.1)

-- how far the ranges were looked at
abbrev pub Swept : List At → ℕ → Option KeyRange → Type 0
Swept order i last = (before : List At) × AllByRecursion (Fits before last) (drop i order) × AreOrdered (drop i order) × (overlapping before (drop i order) ≡ overlapping [] order)

fits_first : (xs : List At) → AllByRecursion (Fits [] None) xs
fits_first [] = tt
fits_first (x ∷ xs) = ((refl, tt), fits_first xs)

pub swept_first : (order : List At) → AreOrdered order → Swept order 0 None
swept_first order o = ([], fits_first order, o, refl)

pub swept_next : (order : List At) (i : ℕ) (x : At) (last : Option KeyRange) → i < length order → x ≡ get_or order i x → overlaps_last x.range last ≡ false → Swept order i last → Swept order (i + 1) (further x.range last)
swept_next order i x last l h n (before, fits, ordered, rest) =
    let here = slice_get_read order (length order) i x refl l h in
    let split = drop_at order i x here in
    let fits' : AllByRecursion (Fits before last) (x ∷ drop (suc i) order) = subst (AllByRecursion (Fits before last)) split fits in
    let ordered' : AreOrdered (x ∷ drop (suc i) order) = subst AreOrdered split ordered in
    let next : Swept order (suc i) (further x.range last) = (
      x ∷ before,
      fits_all before last x (drop (suc i) order) n fits'.0 ordered'.0 fits'.1,
      ordered'.1,
      sym (ap (overlapping before) split ∙ ap (λ t. cond t (Some x) (overlapping (x ∷ before) (drop (suc i) order))) (fits'.0.0 ∙ n)) ∙ rest,
    ) in
    let one : suc i ≡ i + 1 = omega arith in
    subst (λ k. Swept order k (further x.range last)) one next

pub swept_found : (order : List At) (i : ℕ) (x : At) (last : Option KeyRange) → i < length order → x ≡ get_or order i x → overlaps_last x.range last ≡ true → Swept order i last → Some x ≡ overlapping [] order
swept_found order i x last l h n (before, fits, ordered, rest) =
    let here = slice_get_read order (length order) i x refl l h in
    let split = drop_at order i x here in
    let fits' : AllByRecursion (Fits before last) (x ∷ drop (suc i) order) = subst (AllByRecursion (Fits before last)) split fits in
    sym (ap (overlapping before) split ∙ ap (λ t. cond t (Some x) (overlapping (x ∷ before) (drop (suc i) order))) (fits'.0.0 ∙ n)) ∙ rest

pub swept_end : (order : List At) (i : ℕ) (last : Option KeyRange) → length order ≤ i → Swept order i last → None ≡ overlapping [] order
swept_end order i last l (before, fits, ordered, rest) = sym (ap (overlapping before) (drop_of_length-le order l)) ∙ rest
