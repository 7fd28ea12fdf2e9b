-- Sums over lists, and what a filter leaves of them.
use Rattle.std.proofs.Common.{◌≡◌, ℕ, ◌+◌, ◌≤◌, Bool, true, false, cond, not, ◌||◌, leb, List, [], ◌∷◌, Option, Some, None, refl, sym, ap, ◌∙◌, arith, inl, inr}
use Rattle.std.specs.List.{filter, find}
use Rattle.std.specs.Option.{is_some}
use Rattle.std.proofs.lemmas.Bool.{le-leb, leb-true, cases_lt}
use Rattle.fb_bytes.specs.Options.{IsIn}
use Rattle.task_bucket.specs.Lists.{any_of}
use Rattle.task_bucket.specs.Sums.{sum_of}

-- what those that pass count, and how many pass
abbrev pub passing : {A : Type 0} → (A → Bool) → (A → ℕ) → A → ℕ
passing p g x = cond (p x) (g x) 0

abbrev pub one_for : {A : Type 0} → (A → Bool) → A → ℕ
one_for p x = cond (p x) 1 0

pub sum_less : {A : Type 0} (g h : A → ℕ) → ((x : A) → g x ≤ h x) → (xs : List A) → sum_of g xs ≤ sum_of h xs
sum_less g h le [] = omega arith
sum_less g h le (x ∷ xs) = let a = le x in let b = sum_less g h le xs in omega arith

pub sum_plus : {A : Type 0} (f g h : A → ℕ) → ((x : A) → f x ≡ g x + h x) → (xs : List A) → sum_of f xs ≡ sum_of g xs + sum_of h xs
sum_plus f g h is [] = refl
sum_plus f g h is (x ∷ xs) = let a = is x in let b = sum_plus f g h is xs in omega arith

-- those that pass, and those that a filter leaves
pub sum_split : {A : Type 0} (p : A → Bool) (g : A → ℕ) (xs : List A) → sum_of (passing p g) xs + sum_of g (filter (λ x. not (p x)) xs) ≡ sum_of g xs
sum_split p g [] = refl
sum_split p g (x ∷ xs) = go (p x) (sum_split p g xs)
  where
    go : (b : Bool) → sum_of (passing p g) xs + sum_of g (filter (λ x. not (p x)) xs) ≡ sum_of g xs → cond b (g x) 0 + sum_of (passing p g) xs + sum_of g (cond (not b) (x ∷ filter (λ x. not (p x)) xs) (filter (λ x. not (p x)) xs)) ≡ g x + sum_of g xs
    go true ih = omega arith
    go false ih = omega arith

-- ---- how many pass

-- where none passes, what passes counts nothing
pub none_count : {A : Type 0} (p : A → Bool) (g : A → ℕ) (xs : List A) → sum_of (one_for p) xs ≡ 0 → sum_of (passing p g) xs ≡ 0
none_count p g [] e = refl
none_count p g (x ∷ xs) e = go (p x) e (none_count p g xs)
  where
    go : (b : Bool) → cond b 1 0 + sum_of (one_for p) xs ≡ 0 → (sum_of (one_for p) xs ≡ 0 → sum_of (passing p g) xs ≡ 0) → cond b (g x) 0 + sum_of (passing p g) xs ≡ 0
    go true e ih = absurd (omega arith)
    go false e ih = let h = ih (omega arith) in omega arith

-- where one passes at most, what passes counts what the one found does
pub found_counts : {A : Type 0} (p : A → Bool) (g : A → ℕ) (xs : List A) (y : A) → sum_of (one_for p) xs ≤ 1 → find p xs ≡ Some y → sum_of (passing p g) xs ≡ g y
found_counts p g [] y le e = absurd cc
found_counts p g (x ∷ xs) y le e = go (p x) le e (found_counts p g xs y)
  where
    go : (b : Bool) → cond b 1 0 + sum_of (one_for p) xs ≤ 1 → cond b (Some x) (find p xs) ≡ Some y → (sum_of (one_for p) xs ≤ 1 → find p xs ≡ Some y → sum_of (passing p g) xs ≡ g y) → cond b (g x) 0 + sum_of (passing p g) xs ≡ g y
    go true le e ih =
        let same : x ≡ y = cc in
        let rest = none_count p g xs (omega arith) in
        let is : g x ≡ g y = ap g same in
        omega arith
    go false le e ih = let h = ih (omega arith) e in omega arith

pub any_counted : {A : Type 0} (p : A → Bool) (xs : List A) → any_of p xs ≡ leb 1 (sum_of (one_for p) xs)
any_counted p [] = refl
any_counted p (x ∷ xs) = go (p x) (any_counted p xs)
  where
    go : (b : Bool) → any_of p xs ≡ leb 1 (sum_of (one_for p) xs) → (b || any_of p xs) ≡ leb 1 (cond b 1 0 + sum_of (one_for p) xs)
    go true ih = sym (le-leb 1 (1 + sum_of (one_for p) xs) (omega arith))
    go false ih = let same : sum_of (one_for p) xs ≡ 0 + sum_of (one_for p) xs = omega arith in ih ∙ ap (leb 1) same

pub any_found : {A : Type 0} (p : A → Bool) (xs : List A) → any_of p xs ≡ is_some (find p xs)
any_found p [] = refl
any_found p (x ∷ xs) = go (p x) (any_found p xs)
  where
    go : (b : Bool) → any_of p xs ≡ is_some (find p xs) → (b || any_of p xs) ≡ is_some (cond b (Some x) (find p xs))
    go true ih = refl
    go false ih = ih

pub in_counts : {A : Type 0} (p : A → Bool) (x : A) (xs : List A) → p x ≡ true → IsIn x xs → 1 ≤ sum_of (one_for p) xs
in_counts p x [] is i = absurd i
in_counts p x (y ∷ ys) is (inl e) = let b : one_for p y ≡ 1 = ap (λ (z : Bool). cond z 1 0) (ap p (sym e) ∙ is) in omega arith
in_counts p x (y ∷ ys) is (inr i) = let h = in_counts p x ys is i in omega arith

-- the one of a list that passes is found
pub in_found : {A : Type 0} (p : A → Bool) (x : A) (xs : List A) → p x ≡ true → sum_of (one_for p) xs ≤ 1 → IsIn x xs → find p xs ≡ Some x
in_found p x [] is le i = absurd i
in_found p x (y ∷ ys) is le (inl e) = ap (λ (b : Bool). cond b (Some y) (find p ys)) (ap p (sym e) ∙ is) ∙ ap Some (sym e)
in_found p x (y ∷ ys) is le (inr i) = go (p y) le (in_counts p x ys is i) (λ h. in_found p x ys is h i)
  where
    go : (b : Bool) → cond b 1 0 + sum_of (one_for p) ys ≤ 1 → 1 ≤ sum_of (one_for p) ys → (sum_of (one_for p) ys ≤ 1 → find p ys ≡ Some x) → cond b (Some y) (find p ys) ≡ Some x
    go true le more ih = absurd (omega arith)
    go false le more ih = ih (omega arith)

-- ---- filters that take the same out

pub any_none : {A : Type 0} (p : A → Bool) (xs : List A) → any_of p xs ≡ false → filter (λ x. not (p x)) xs ≡ xs
any_none p [] e = refl
any_none {A = A} p (x ∷ xs) e = go (p x) e (any_none p xs)
  where
    go : (b : Bool) → (b || any_of p xs) ≡ false → (any_of p xs ≡ false → filter (λ x. not (p x)) xs ≡ xs) → cond (not b) (x ∷ filter (λ x. not (p x)) xs) (filter (λ x. not (p x)) xs) ≡ x ∷ xs
    go true e ih = absurd cc
    go false e ih = ap (λ (ys : List A). x ∷ ys) (ih e)

pub none_any : {A : Type 0} (p : A → Bool) (xs : List A) → sum_of (one_for p) xs ≡ 0 → any_of p xs ≡ false
none_any p xs e = any_counted p xs ∙ ap (leb 1) e

-- each that passes the one test passes the other
abbrev pub Implies : {A : Type 0} → (A → Bool) → (A → Bool) → Type 0
Implies {A} p q = (x : A) → p x ≡ true → q x ≡ true

implies_one : {A : Type 0} (p q : A → Bool) → Implies p q → (x : A) → one_for p x ≤ one_for q x
implies_one p q h x = go (p x) (h x)
  where
    go : (b : Bool) → (b ≡ true → q x ≡ true) → cond b 1 0 ≤ one_for q x
    go true h = let e : one_for q x ≡ 1 = ap (λ (z : Bool). cond z 1 0) (h refl) in omega arith
    go false h = omega arith

-- Where one of them passes the narrow test, and one at most the wide one, both take the same out.
pub same_out : {A : Type 0} (p q : A → Bool) → Implies p q → (xs : List A) → any_of p xs ≡ true → sum_of (one_for q) xs ≤ 1 → filter (λ x. not (p x)) xs ≡ filter (λ x. not (q x)) xs
same_out p q h [] e le = refl
same_out {A = A} p q h (x ∷ xs) e le = go (p x) (q x) (h x) e le (same_out p q h xs)
  where
    go : (b d : Bool) → (b ≡ true → d ≡ true) → (b || any_of p xs) ≡ true → cond d 1 0 + sum_of (one_for q) xs ≤ 1 → (any_of p xs ≡ true → sum_of (one_for q) xs ≤ 1 → filter (λ x. not (p x)) xs ≡ filter (λ x. not (q x)) xs) → cond (not b) (x ∷ filter (λ x. not (p x)) xs) (filter (λ x. not (p x)) xs) ≡ cond (not d) (x ∷ filter (λ x. not (q x)) xs) (filter (λ x. not (q x)) xs)
    go true true i e le ih =
        let less = sum_less (one_for p) (one_for q) (implies_one p q h) xs in
        any_none p xs (none_any p xs (omega arith)) ∙ sym (any_none q xs (none_any q xs (omega arith)))
    go true false i e le ih = absurd (let wrong = i refl in cc)
    go false true i e le ih =
        let less = sum_less (one_for p) (one_for q) (implies_one p q h) xs in
        let none = none_any p xs (omega arith) in
        absurd (let wrong : true ≡ false = sym e ∙ none in cc)
    go false false i e le ih = ap (λ (ys : List A). x ∷ ys) (ih e (omega arith))

-- ---- tests that don't pass

pub not_one : (n : ℕ) → leb 1 n ≡ false → n ≡ 0
not_one n e = elim (cases_lt n 1) [
  | inl lt ↦ omega arith
  | inr le ↦ absurd (let wrong : true ≡ false = sym (le-leb 1 n le) ∙ e in cc)
]

-- none is found where none is counted
pub none_found : {A : Type 0} (p : A → Bool) (xs : List A) → sum_of (one_for p) xs ≡ 0 → find p xs ≡ None
none_found p xs e = is_none (find p xs) (sym (any_found p xs) ∙ none_any p xs e)
  where
    is_none : {B : Type 0} (o : Option B) → is_some o ≡ false → o ≡ None
    is_none None e = refl
    is_none (Some y) e = absurd cc

-- where one is found, it passes and is counted
pub found_passes : {A : Type 0} (p : A → Bool) (xs : List A) (y : A) → find p xs ≡ Some y → p y ≡ true
found_passes p [] y e = absurd cc
found_passes p (x ∷ xs) y e = go (p x) refl e (found_passes p xs y)
  where
    go : (b : Bool) → p x ≡ b → cond b (Some x) (find p xs) ≡ Some y → (find p xs ≡ Some y → p y ≡ true) → p y ≡ true
    go true is e ih = let same : x ≡ y = cc in ap p (sym same) ∙ is
    go false is e ih = ih e

pub any_one : {A : Type 0} (p : A → Bool) (xs : List A) → any_of p xs ≡ true → 1 ≤ sum_of (one_for p) xs
any_one p xs e = leb-true _ _ (sym (any_counted p xs) ∙ e)

pub found_one : {A : Type 0} (p : A → Bool) (xs : List A) (y : A) → find p xs ≡ Some y → 1 ≤ sum_of (one_for p) xs
found_one p xs y e = any_one p xs (any_found p xs ∙ ap is_some e)

-- of those that a filter leaves, none passes
pub out_counts : {A : Type 0} (p : A → Bool) (g : A → ℕ) (xs : List A) → sum_of (passing p g) (filter (λ x. not (p x)) xs) ≡ 0
out_counts p g [] = refl
out_counts p g (x ∷ xs) = go (p x) refl (out_counts p g xs)
  where
    go : (b : Bool) → p x ≡ b → sum_of (passing p g) (filter (λ x. not (p x)) xs) ≡ 0 → sum_of (passing p g) (cond (not b) (x ∷ filter (λ x. not (p x)) xs) (filter (λ x. not (p x)) xs)) ≡ 0
    go true is ih = ih
    go false is ih = let zero : passing p g x ≡ 0 = ap (λ (b : Bool). cond b (g x) 0) is in omega arith

-- a filter leaves no more
pub filter_less : {A : Type 0} (p : A → Bool) (g : A → ℕ) (xs : List A) → sum_of g (filter (λ x. not (p x)) xs) ≤ sum_of g xs
filter_less p g xs = let split = sum_split p g xs in omega arith

-- a filter leaves what those count that pass another test
pub apart_out : {A : Type 0} (p q : A → Bool) (g : A → ℕ) → ((x : A) → p x ≡ true → q x ≡ false) → (xs : List A) → sum_of (passing q g) (filter (λ x. not (p x)) xs) ≡ sum_of (passing q g) xs
apart_out p q g h [] = refl
apart_out p q g h (x ∷ xs) = go (p x) (h x) (apart_out p q g h xs)
  where
    go : (b : Bool) → (b ≡ true → q x ≡ false) → sum_of (passing q g) (filter (λ x. not (p x)) xs) ≡ sum_of (passing q g) xs → sum_of (passing q g) (cond (not b) (x ∷ filter (λ x. not (p x)) xs) (filter (λ x. not (p x)) xs)) ≡ passing q g x + sum_of (passing q g) xs
    go true h ih = let zero : passing q g x ≡ 0 = ap (λ (b : Bool). cond b (g x) 0) (h refl) in omega arith
    go false h ih = omega arith
