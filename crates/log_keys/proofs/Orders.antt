-- The order of jobs and versions, and lists that are filtered.
use Rattle.std.proofs.Common.{◌≡◌, ℕ, ◌<◌, ◌≤◌, ◌⊎◌, inl, inr, Bool, true, false, ◌&&◌, ◌||◌, cond, eqb, ltb, List, [], ◌∷◌, map, refl, sym, ap, ◌∙◌, arith}
use Rattle.std.specs.List.{AllByRecursion, filter}
use Rattle.std.proofs.lemmas.Bool.{and_parts, eqb-true, cases_order, lt-ltb, le-ltb, eq-eqb, ne_eqb}
use Rattle.mutations.proofs.Basics.{by_test, not_both}

-- ---- pairs of numbers

abbrev pub before : ℕ → ℕ → ℕ → ℕ → Bool
before a b c d = ltb a c || (eqb a c && ltb b d)

abbrev pub same : ℕ → ℕ → ℕ → ℕ → Bool
same a b c d = eqb a c && eqb b d

abbrev Before : ℕ → ℕ → ℕ → ℕ → Type 0
Before a b c d = (a < c) ⊎ ((a ≡ c) × (b < d))

before_less : (a b c d : ℕ) → a < c → before a b c d ≡ true
before_less a b c d lt = rw (lt-ltb a c lt) refl

before_next : (a b c d : ℕ) → a ≡ c → b < d → before a b c d ≡ true
before_next a b c d e lt = rw (le-ltb a c (omega arith), eq-eqb a c e, lt-ltb b d lt) refl

before_not_more : (a b c d : ℕ) → c < a → before a b c d ≡ false
before_not_more a b c d lt = rw (le-ltb a c (omega arith), ne_eqb a c (λ e. omega arith)) refl

before_not_next : (a b c d : ℕ) → a ≡ c → d ≤ b → before a b c d ≡ false
before_not_next a b c d e le = rw (le-ltb a c (omega arith), eq-eqb a c e, le-ltb b d le) refl

before_from : (a b c d : ℕ) → Before a b c d → before a b c d ≡ true
before_from a b c d h = elim h [ inl lt ↦ before_less a b c d lt | inr p ↦ before_next a b c d p.0 p.1 ]

before_is : (a b c d : ℕ) → before a b c d ≡ true → Before a b c d
before_is a b c d h = elim (cases_order a c) [
  | inl e ↦ elim (cases_order b d) [
    | inl f ↦ not_both h (before_not_next a b c d e (omega arith))
    | inr (inl lt) ↦ inr (e, lt)
    | inr (inr gt) ↦ not_both h (before_not_next a b c d e (omega arith))
  ]
  | inr (inl lt) ↦ inl lt
  | inr (inr gt) ↦ not_both h (before_not_more a b c d gt)
]

pub before_trans : (a b c d e f : ℕ) → before a b c d ≡ true → before c d e f ≡ true → before a b e f ≡ true
before_trans a b c d e f h g = before_from a b e f (elim (before_is a b c d h) [
  | inl lt ↦ elim (before_is c d e f g) [ inl more ↦ inl (omega arith) | inr p ↦ (let q = p.0 in inl (omega arith)) ]
  | inr r ↦ (let s = r.0 in let t = r.1 in elim (before_is c d e f g) [ inl more ↦ inl (omega arith) | inr p ↦ (let q = p.0 in let u = p.1 in inr (s ∙ q, omega arith)) ])
])

-- a pair that isn't before another, and isn't it, is behind it
pub before_back : (a b c d : ℕ) → before a b c d ≡ false → same a b c d ≡ false → before c d a b ≡ true
before_back a b c d h g = elim (cases_order a c) [
  | inl e ↦ elim (cases_order b d) [
    | inl f ↦ not_both (rw (eq-eqb a c e, eq-eqb b d f) refl) g
    | inr (inl lt) ↦ not_both (before_next a b c d e lt) h
    | inr (inr gt) ↦ before_next c d a b (sym e) gt
  ]
  | inr (inl lt) ↦ not_both (before_less a b c d lt) h
  | inr (inr gt) ↦ before_less c d a b gt
]

-- what is behind another isn't it
pub before_not_same : (a b c d : ℕ) → before a b c d ≡ true → same c d a b ≡ false
before_not_same a b c d h = elim (before_is a b c d h) [
  | inl lt ↦ rw (ne_eqb c a (λ e. omega arith)) refl
  | inr p ↦ (let e = p.0 in let lt = p.1 in rw (eq-eqb c a (sym e), ne_eqb d b (λ f. omega arith)) refl)
]

pub same_itself : (a b : ℕ) → same a b a b ≡ true
same_itself a b = rw (eq-eqb a a refl, eq-eqb b b refl) refl

pub before_version : (a b c d : ℕ) → a ≡ c → before a b c d ≡ true → b < d
before_version a b c d e h = elim (before_is a b c d h) [ inl lt ↦ absurd (omega arith) | inr p ↦ p.1 ]

pub before_least : (a b c d : ℕ) → before a b c d ≡ true → a ≤ c
before_least a b c d h = elim (before_is a b c d h) [ inl lt ↦ omega arith | inr p ↦ (let e = p.0 in omega arith) ]

-- before the first part of a version
pub before_start : (a b c : ℕ) → before a b c 0 ≡ true → a < c
before_start a b c h = elim (before_is a b c 0 h) [ inl lt ↦ lt | inr p ↦ (let lt = p.1 in absurd (omega arith)) ]

pub start_before : (a b c : ℕ) → a < c → before a b c 0 ≡ true
start_before a b c lt = before_less a b c 0 lt

pub same_is : (a b c d : ℕ) → same a b c d ≡ true → (a ≡ c) × (b ≡ d)
same_is a b c d h = let p = and_parts (eqb a c) (eqb b d) h in (eqb-true a c p.0, eqb-true b d p.1)

-- ---- keys by their parts

pub below_part : (a b m n : ℕ) → m < n → (ltb a a || (eqb a a && (ltb b b || (eqb b b && ltb m n)))) ≡ true
below_part a b m n lt = rw (le-ltb a a (omega arith), eq-eqb a a refl, le-ltb b b (omega arith), eq-eqb b b refl, lt-ltb m n lt) refl

pub below_before : (p q r s t : Bool) → (p || (q && r)) ≡ true → (p || (q && (r || (s && t)))) ≡ true
below_before true q r s t h = refl
below_before false true true s t h = refl
below_before false true false s t h = not_both refl (sym h)
below_before false false r s t h = not_both refl (sym h)

pub below_not : (p q r s t : Bool) → (p || (q && r)) ≡ false → (q && s) ≡ false → (p || (q && (r || (s && t)))) ≡ false
below_not true q r s t h g = not_both refl h
below_not false true true s t h g = not_both refl h
below_not false true false true t h g = not_both refl g
below_not false true false false t h g = refl
below_not false false r s t h g = refl

pub or_parts : (p q : Bool) → (p || q) ≡ false → (p ≡ false) × (q ≡ false)
or_parts true q h = not_both refl h
or_parts false q h = (refl, h)

-- ---- filtered lists

pub all_pass : {X : Type 0} (test : X → Bool) (xs : List X) → AllByRecursion (λ x. test x ≡ true) (filter test xs)
all_pass test [] = tt
all_pass test (x ∷ xs) = by_test (test x) (AllByRecursion (λ y. test y ≡ true)) (x ∷ filter test xs) (filter test xs) (λ e. (e, all_pass test xs)) (λ e. all_pass test xs)

pub all_filter : {X : Type 0} (P : X → Type 0) (test : X → Bool) → (xs : List X) → AllByRecursion P xs → AllByRecursion P (filter test xs)
all_filter P test [] h = tt
all_filter P test (x ∷ xs) h = by_test (test x) (AllByRecursion P) (x ∷ filter test xs) (filter test xs) (λ e. (h.0, all_filter P test xs h.1)) (λ e. all_filter P test xs h.1)

map_cond : {X Y : Type 0} (f : X → Y) (b : Bool) (x : X) (xs : List X) (ys : List Y) → ys ≡ map f xs → cond b (f x ∷ ys) ys ≡ map f (cond b (x ∷ xs) xs)
map_cond f true x xs ys e = ap (λ zs. f x ∷ zs) e
map_cond f false x xs ys e = e

pub filter-map : {X Y : Type 0} (f : X → Y) (test : Y → Bool) → (xs : List X) → filter test (map f xs) ≡ map f (filter (λ x. test (f x)) xs)
filter-map f test [] = refl
filter-map f test (x ∷ xs) = map_cond f (test (f x)) x (filter (λ y. test (f y)) xs) (filter test (map f xs)) (filter-map f test xs)

pub map-map : {X Y Z : Type 0} (f : X → Y) (g : Y → Z) → (xs : List X) → map g (map f xs) ≡ map (λ x. g (f x)) xs
map-map f g [] = refl
map-map f g (x ∷ xs) = ap (λ zs. g (f x) ∷ zs) (map-map f g xs)
