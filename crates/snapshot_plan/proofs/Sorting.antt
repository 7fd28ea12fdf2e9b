-- Two lists in byte order with the same names are the same list, so a sort finds the manifest's names.
use Rattle.std.proofs.Common.{◌≡◌, ℕ, suc, ◌+◌, true, false, if◌then◌else◌, List, [], ◌∷◌, get_or, sum_by, refl, sym, ap, ◌∙◌, subst, arith}
use Rattle.std.specs.Ordering.{is_lt, nat_cmp}
use Rattle.std.specs.Cmp.Lexicographic.{slice_cmp}
use Rattle.std.specs.List.Sorted.{IsPermutation, IsSorted}
use Rattle.std.proofs.lemmas.List.Sorted.{sum_by-IsPermutation}
use Rattle.std.proofs.lemmas.List.Sums.{sum_by-cons}
use Rattle.std.proofs.lemmas.Bool.{cond-true, cond-false}
use Rattle.fb_bytes.specs.Bytes.{Bytes, is_below, is_same}
use Rattle.fb_bytes.proofs.Order.{below_up, below_not_same, neither_below, same_itself}
use Rattle.snapshot_plan.specs.Noted.{Noted, with_name, names_of}
use Rattle.snapshot_plan.specs.Listing.{noted_names, NameFrom, AreOrdered}
use Rattle.snapshot_plan.proofs.Walking.{by}
use Rattle.snapshot_plan.proofs.Manifests.{placed_cases, names_ordered}

abbrev one_of : Bytes → Bytes → ℕ
one_of x y = if is_same x y then 1 else 0

-- how often a name stands in a list
abbrev many : Bytes → List Bytes → ℕ
many x [] = 0
many x (y ∷ ys) = one_of x y + many x ys

many_sum : (x : Bytes) (xs : List Bytes) → many x xs ≡ sum_by (one_of x) xs
many_sum x [] = refl
many_sum x (y ∷ ys) = ap (λ n. one_of x y + n) (many_sum x ys) ∙ sym (sum_by-cons (one_of x) y ys)

one_itself : (x : Bytes) → one_of x x ≡ 1
one_itself x = cond-true {A = ℕ} (is_same x x) 1 0 (same_itself x)

many_none : (x y : Bytes) (ys : List Bytes) → AreOrdered (y ∷ ys) → is_below x y ≡ true → many x (y ∷ ys) ≡ 0
many_none x y [] o h = let e = cond-false {A = ℕ} (is_same x y) 1 0 (below_not_same x y h) in omega (arith, e)
many_none x y (z ∷ zs) o h =
    let e = cond-false {A = ℕ} (is_same x y) 1 0 (below_not_same x y h) in
    let rest = many_none x z zs o.1 (below_up x z y h o.0) in
    omega (arith, e, rest)

one_there : (x y : Bytes) (xs ys : List Bytes) → AreOrdered (y ∷ ys) → many x (x ∷ xs) ≡ many x (y ∷ ys) → is_below x y ≡ false
one_there x y xs ys o m = by (is_below x y)
    (λ b. let none = many_none x y ys o b in let itself = one_itself x in absurd (omega (arith, none, itself, m)))
    (λ b. b)

pub ordered_same : (xs ys : List Bytes) → AreOrdered xs → AreOrdered ys → ((x : Bytes) → many x xs ≡ many x ys) → xs ≡ ys
ordered_same [] [] o p m = refl
ordered_same [] (y ∷ ys) o p m = let h = m y in let e = one_itself y in absurd (omega (arith, h, e))
ordered_same (x ∷ xs) [] o p m = let h = m x in let e = one_itself x in absurd (omega (arith, h, e))
ordered_same (x ∷ xs) (y ∷ ys) o p m =
    let same = neither_below x y (one_there x y xs ys p (m x)) (one_there y x ys xs o (sym (m y))) in
    heads same (ordered_same xs ys o.1 p.1 (λ z. let h = m z in let e : one_of z x ≡ one_of z y = ap (one_of z) same in omega (arith, h, e)))
  where
    heads : x ≡ y → xs ≡ ys → x ∷ xs ≡ y ∷ ys
    heads e f = ap (λ z. z ∷ xs) e ∙ ap (λ zs. y ∷ zs) f

many_placed : (x name : Bytes) (names : List Bytes) → many x (with_name name names) ≡ one_of x name + many x names
many_placed x name [] = refl
many_placed x name (n ∷ ns) =
    placed_cases (λ z. is_below z name) name n ns (λ zs. many x zs ≡ one_of x name + (one_of x n + many x ns))
    (λ t. let ih = many_placed x name ns in omega (arith, ih))
    (λ f. refl)

many_names : (x : Bytes) (names : List Bytes) (ns : List Noted) → many x (names_of names ns) ≡ many x names + many x (noted_names ns)
many_names x names [] = omega arith
many_names x names (n ∷ ns) =
    let ih = many_names x (with_name n.file.name names) ns in
    let p = many_placed x n.file.name names in
    omega (arith, ih, p)

ordered_from : (xs : List Bytes) → IsSorted (slice_cmp nat_cmp) xs → AreOrdered xs
unfolding is_below
ordered_from [] h = tt
ordered_from (x ∷ xs) h = (first xs h, ordered_from xs (rest x xs h))
  where
    first : (ys : List Bytes) → IsSorted (slice_cmp nat_cmp) (x ∷ ys) → NameFrom x ys
    first [] h = tt
    first (y ∷ ys) h = h 0 x (omega arith) (omega arith)

    rest : (x : Bytes) (ys : List Bytes) → IsSorted (slice_cmp nat_cmp) (x ∷ ys) → IsSorted (slice_cmp nat_cmp) ys
    rest x ys h k d lo hi = let e : suc k + 1 ≡ suc (k + 1) = omega arith in subst (λ n. is_lt (slice_cmp nat_cmp (get_or (x ∷ ys) n d) (get_or ys k d)) ≡ false) e (h (suc k) d (omega arith) (omega arith))

pub names_sorted : (noted : List Noted) (names sorted : List Bytes) → names ≡ noted_names noted → IsPermutation names sorted → IsSorted (slice_cmp nat_cmp) sorted → sorted ≡ names_of [] noted
names_sorted noted names sorted e p s = ordered_same sorted (names_of [] noted) (ordered_from sorted s) (names_ordered [] noted tt) (λ x.
    let moved = sum_by-IsPermutation (one_of x) names sorted p in
    let many_in = many_names x [] noted in
    let a = many_sum x sorted in
    let b = many_sum x names in
    let c : many x names ≡ many x (noted_names noted) = ap (many x) e in
    omega (arith, moved, many_in, a, b, c))
