-- A stable sort by the begin keys gives the order.
use Rattle.std.proofs.Common.{◌≡◌, suc, ◌+◌, Bool, true, false, not, ◌&&◌, cond, List, [], ◌∷◌, get_or, refl, sym, ap, ◌∙◌, subst, arith}
use Rattle.std.specs.List.{filter, AllByRecursion}
use Rattle.std.specs.List.Sorted.{IsSortedBy, IsStableBy, ties}
use Rattle.std.specs.Cmp.{IsStrictWeakOrder}
use Rattle.fb_bytes.specs.Bytes.{is_below}
use Rattle.fb_bytes.proofs.Order.{below_up, below_itself, below_not_back}
use Rattle.mutations.proofs.Basics.{by_test, not_both, not_true, all_weaker}
use Rattle.restore_apply.specs.Overlaps.{At, placed, in_order}
use Rattle.restore_apply.specs.inner.Overlaps.{AreOrdered}
use Rattle.restore_apply.proofs.Lines.{are_ordered, not_below}

-- begins below
abbrev pub begins_below : At → At → Bool
begins_below x y = is_below x.range.begin y.range.begin

pub weak_order : IsStrictWeakOrder begins_below
weak_order = record {
  one_way = λ x y h. below_not_back x.range.begin y.range.begin h;
  chain = λ x y z h g. not_below z.range.begin y.range.begin x.range.begin h g;
}

-- ---- sorted

sorted_tail : (x : At) (xs : List At) → IsSortedBy begins_below (x ∷ xs) → IsSortedBy begins_below xs
sorted_tail x xs h k d l u = let e : suc k + 1 ≡ suc (k + 1) = omega arith in subst (λ n. begins_below (get_or (x ∷ xs) n d) (get_or (x ∷ xs) (suc k) d) ≡ false) e (h (suc k) d (omega arith) (omega arith))

pub ordered_from : (xs : List At) → IsSortedBy begins_below xs → AreOrdered xs
ordered_from [] h = tt
ordered_from (x ∷ []) h = (tt, tt)
ordered_from (x ∷ y ∷ ys) h =
    let rest = ordered_from (y ∷ ys) (sorted_tail x (y ∷ ys) h) in
    let here : is_below y.range.begin x.range.begin ≡ false = h 0 x (omega arith) (omega arith) in
    ((here, all_weaker (λ (z : At). is_below z.range.begin y.range.begin ≡ false) (λ (z : At). is_below z.range.begin x.range.begin ≡ false) (λ z n. not_below x.range.begin y.range.begin z.range.begin n here) ys rest.0), rest)

-- ---- stable

both_true : (a b : Bool) → (a && b) ≡ true → (a ≡ true) × (b ≡ true)
both_true true true h = (refl, refl)
both_true true false h = not_both h refl
both_true false b h = not_both h refl

-- those that tie with one
abbrev tied : At → List At → List At
tied z xs = filter (ties begins_below z) xs

swapped : (z y x : At) (ys : List At) → begins_below y x ≡ true → tied z (y ∷ x ∷ ys) ≡ tied z (x ∷ y ∷ ys)
swapped z y x ys b = go (ties begins_below z y) (ties begins_below z x) refl refl
  where
    apart : {P : Type 0} → ties begins_below z y ≡ true → ties begins_below z x ≡ true → P
    apart e f =
        let one = both_true (not (begins_below z y)) (not (begins_below y z)) e in
        let two = both_true (not (begins_below z x)) (not (begins_below x z)) f in
        not_both (below_up y.range.begin z.range.begin x.range.begin b (not_true (begins_below z x) two.0)) (not_true (begins_below y z) one.1)

    go : (s t : Bool) → ties begins_below z y ≡ s → ties begins_below z x ≡ t → tied z (y ∷ x ∷ ys) ≡ tied z (x ∷ y ∷ ys)
    go true true e f = apart e f
    go true false e f = rw (e, f) refl
    go false true e f = rw (e, f) refl
    go false false e f = rw (e, f) refl

tied_placed : (z x : At) (ys : List At) → tied z (placed x ys) ≡ tied z (x ∷ ys)
tied_placed z x [] = refl
tied_placed z x (y ∷ ys) = by_test (begins_below y x) (λ (xs : List At). tied z xs ≡ tied z (x ∷ y ∷ ys)) (y ∷ placed x ys) (x ∷ y ∷ ys)
    (λ e. ap (λ (v : List At). cond (ties begins_below z y) (y ∷ v) v) (tied_placed z x ys) ∙ swapped z y x ys e)
    (λ e. refl)

tied_in_order : (z : At) (xs : List At) → tied z (in_order xs) ≡ tied z xs
tied_in_order z [] = refl
tied_in_order z (x ∷ xs) = tied_placed z x (in_order xs) ∙ ap (λ (v : List At). cond (ties begins_below z x) (x ∷ v) v) (tied_in_order z xs)

ties_itself : (x : At) → ties begins_below x x ≡ true
ties_itself x = ap (λ t. not t && not t) (below_itself x.range.begin)

tied_first : (x : At) (xs : List At) → tied x (x ∷ xs) ≡ x ∷ tied x xs
tied_first x xs = ap (λ t. cond t (x ∷ tied x xs) (tied x xs)) (ties_itself x)

all_tied : (P : At → Type 0) (z : At) (xs : List At) → AllByRecursion P xs → AllByRecursion P (tied z xs)
all_tied P z [] h = tt
all_tied P z (x ∷ xs) h = by_test (ties begins_below z x) (AllByRecursion P) (x ∷ tied z xs) (tied z xs) (λ e. (h.0, all_tied P z xs h.1)) (λ e. all_tied P z xs h.1)

-- one that ties stands no earlier than the first
not_before : (x y : At) (ys rest : List At) → AreOrdered (y ∷ ys) → x ∷ rest ≡ tied x (y ∷ ys) → begins_below x y ≡ false
not_before x y ys rest o e =
    let all : AllByRecursion (λ (z : At). begins_below z y ≡ false) (y ∷ ys) = (below_itself y.range.begin, o.0) in
    (subst (AllByRecursion (λ (z : At). begins_below z y ≡ false)) (sym e) (all_tied (λ (z : At). begins_below z y ≡ false) x (y ∷ ys) all)).0

first_of : (x y : At) (xs ys : List At) → x ∷ xs ≡ y ∷ ys → x ≡ y
first_of x y xs ys e = cc

rest_of : (x y : At) (xs ys : List At) → x ∷ xs ≡ y ∷ ys → xs ≡ ys
rest_of x y xs ys e = cc

tail_of : (z x : At) (xs ys : List At) → tied z (x ∷ xs) ≡ tied z (x ∷ ys) → tied z xs ≡ tied z ys
tail_of z x xs ys e = go (ties begins_below z x) e
  where
    go : (t : Bool) → cond t (x ∷ tied z xs) (tied z xs) ≡ cond t (x ∷ tied z ys) (tied z ys) → tied z xs ≡ tied z ys
    go true h = rest_of x x (tied z xs) (tied z ys) h
    go false h = h

same_first : (x y : At) (xs ys : List At) → AreOrdered (x ∷ xs) → AreOrdered (y ∷ ys) → ((z : At) → tied z (x ∷ xs) ≡ tied z (y ∷ ys)) → x ≡ y
same_first x y xs ys o p h =
    let up : begins_below x y ≡ false = not_before x y ys (tied x xs) p (sym (tied_first x xs) ∙ h x) in
    let down : begins_below y x ≡ false = not_before y x xs (tied y ys) o (sym (tied_first y ys) ∙ sym (h y)) in
    let tie : ties begins_below x y ≡ true = (λ i. not (up i) && not (down i)) in
    first_of x y (tied x xs) (tied x ys) (sym (tied_first x xs) ∙ h x ∙ ap (λ t. cond t (y ∷ tied x ys) (tied x ys)) tie)

nothing_first : {P : Type 0} (y : At) (ys : List At) → [] ≡ tied y (y ∷ ys) → P
nothing_first y ys e = let f : [] ≡ y ∷ tied y ys = e ∙ tied_first y ys in absurd cc

same_order : (xs ys : List At) → AreOrdered xs → AreOrdered ys → ((z : At) → tied z xs ≡ tied z ys) → xs ≡ ys
same_order [] [] o p h = refl
same_order [] (y ∷ ys) o p h = nothing_first y ys (h y)
same_order (x ∷ xs) [] o p h = nothing_first x xs (sym (h x))
same_order (x ∷ xs) (y ∷ ys) o p h =
    let same = same_first x y xs ys o p h in
    let rest = same_order xs ys o.1 p.1 (λ z. tail_of z x xs ys (h z ∙ ap (λ (w : At). tied z (w ∷ ys)) (sym same))) in
    (λ i. same i ∷ rest i)

pub sorted_is : (xs ys : List At) → IsSortedBy begins_below ys → IsStableBy begins_below xs ys → ys ≡ in_order xs
sorted_is xs ys s t = same_order ys (in_order xs) (ordered_from ys s) (are_ordered xs) (λ z. t z ∙ sym (tied_in_order z xs))
