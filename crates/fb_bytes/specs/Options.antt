-- Words on options and lists that definitions of many crates are made of.
use Rattle.std.specs.Prelude.{◌≡◌, ℕ, ◌+◌, Bool, List, [], ◌∷◌, Option, Some, None, ◌⊎◌}
use Rattle.std.specs.Prelude.{if◌then◌else◌}

-- one of these is x
abbrev pub IsIn : {X : Type 0} → X → List X → Type 0
IsIn x [] = ⊥
IsIn x (y ∷ ys) = (x ≡ y) ⊎ IsIn x ys

-- the second step, where the first one has a result
infixl 10 ◌>>=◌
abbrev pub ◌>>=◌ : {A B : Type 0} → Option A → (A → Option B) → Option B
None >>= f = None
(Some x) >>= f = f x

-- the results of all, where each has one
abbrev pub each_of : {A B : Type 0} → (A → Option B) → List A → Option (List B)
each_of f [] = Some []
each_of f (x ∷ xs) = do
  y ← f x
  ys ← each_of f xs
  Some (y ∷ ys)

-- the best of those that pass; of two that are alike, the first
abbrev pub better_of : {A : Type 0} → (A → A → Bool) → A → Option A → A
better_of beats x None = x
better_of beats x (Some y) = if beats y x then y else x

abbrev pub best_of : {A : Type 0} → (A → Bool) → (A → A → Bool) → List A → Option A
best_of passes beats [] = None
best_of passes beats (x ∷ xs) =
    if passes x then Some (better_of beats x (best_of passes beats xs)) else best_of passes beats xs

-- the place of the first that passes, counted on from a number
abbrev pub first_place_from : {A : Type 0} → ℕ → (A → Bool) → List A → Option ℕ
first_place_from n passes [] = None
first_place_from n passes (x ∷ xs) = if passes x then Some n else first_place_from (n + 1) passes xs

-- the place of the first that passes
abbrev pub first_place : {A : Type 0} → (A → Bool) → List A → Option ℕ
first_place passes xs = first_place_from 0 passes xs
