-- Loops over a list, one element after the other.
use Rattle.std.proofs.Common.{◌≡◌, ℕ, zero, suc, ◌+◌, ◌<◌, ◌≤◌, Bool, true, false, cond, List, [], ◌∷◌, length, get_or, set, map, drop, refl, sym, ap, ◌∙◌, arith}
use Rattle.std.proofs.Math.Seq.{drop-cons}

-- ---- a loop that changes each element

-- a list whose first elements were changed
abbrev pub mapped : {A : Type 0} → (A → A) → ℕ → List A → List A
mapped f zero xs = xs
mapped f (suc i) [] = []
mapped f (suc i) (x ∷ xs) = f x ∷ mapped f i xs

mapped-suc : {A : Type 0} (f : A → A) (i : ℕ) (xs : List A) (d : A) → i < length xs → set (mapped f i xs) i (f (get_or (mapped f i xs) i d)) ≡ mapped f (suc i) xs
mapped-suc f i [] d lt = absurd (omega arith)
mapped-suc f zero (x ∷ xs) d lt = refl
mapped-suc f (suc i) (x ∷ xs) d lt = ap (λ ys. f x ∷ ys) (mapped-suc f i xs d (omega arith))

pub mapped-step : {A : Type 0} (f : A → A) (i : ℕ) (xs ys : List A) (x d : A) → i < length xs → ys ≡ mapped f i xs → x ≡ f (get_or ys i d) → set ys i x ≡ mapped f (i + 1) xs
mapped-step f i xs ys x d lt e is =
    let one : suc i ≡ i + 1 = omega arith in
    ap (set ys i) is ∙ ap (λ zs. set zs i (f (get_or zs i d))) e ∙ mapped-suc f i xs d lt ∙ ap (λ n. mapped f n xs) one

pub mapped-all : {A : Type 0} (f : A → A) (i : ℕ) (xs : List A) → length xs ≤ i → mapped f i xs ≡ map f xs
mapped-all f zero [] le = refl
mapped-all f zero (x ∷ xs) le = absurd (omega arith)
mapped-all f (suc i) [] le = refl
mapped-all f (suc i) (x ∷ xs) le = ap (λ ys. f x ∷ ys) (mapped-all f i xs (omega arith))

-- ---- a loop that looks for the first element that passes

-- what such a search finds
pub record Searches {A B : Type 0} (f : List A → B) (test : A → Bool) (found : A → B) : Type 0 where
  pub step : (x : A) (xs : List A) → f (x ∷ xs) ≡ cond (test x) (found x) (f xs)

at_drop : {A B : Type 0} (f : List A → B) (xs : List A) (i : ℕ) (x : A) → i < length xs → x ≡ get_or xs i x → f (drop i xs) ≡ f (x ∷ drop (i + 1) xs)
at_drop f xs i x lt is =
    let one : suc i ≡ i + 1 = omega arith in
    ap f (drop-cons xs i x lt ∙ ap (λ y. y ∷ drop (suc i) xs) (sym is) ∙ ap (λ n. x ∷ drop n xs) one)

pub skips : {A B : Type 0} (f : List A → B) (test : A → Bool) (found : A → B) → Searches f test found → (xs : List A) (i : ℕ) (x : A) → i < length xs → x ≡ get_or xs i x → test x ≡ false → f (drop i xs) ≡ f xs → f (drop (i + 1) xs) ≡ f xs
skips f test found s xs i x lt is fails so_far = sym (at_drop f xs i x lt is ∙ s.step x (drop (i + 1) xs) ∙ ap (λ b. cond b (found x) (f (drop (i + 1) xs))) fails) ∙ so_far

pub stops : {A B : Type 0} (f : List A → B) (test : A → Bool) (found : A → B) → Searches f test found → (xs : List A) (i : ℕ) (x : A) → i < length xs → x ≡ get_or xs i x → test x ≡ true → f (drop i xs) ≡ f xs → found x ≡ f xs
stops f test found s xs i x lt is passes so_far = sym (at_drop f xs i x lt is ∙ s.step x (drop (i + 1) xs) ∙ ap (λ b. cond b (found x) (f (drop (i + 1) xs))) passes) ∙ so_far

pub drop-all : {A : Type 0} (xs : List A) (i : ℕ) → length xs ≤ i → drop i xs ≡ []
drop-all [] zero le = refl
drop-all [] (suc i) le = refl
drop-all (x ∷ xs) zero le = absurd (omega arith)
drop-all (x ∷ xs) (suc i) le = drop-all xs i (omega arith)

pub ends : {A B : Type 0} (f : List A → B) (xs : List A) (i : ℕ) → length xs ≤ i → f (drop i xs) ≡ f xs → f [] ≡ f xs
ends f xs i le so_far = sym (ap f (drop-all xs i le)) ∙ so_far
