-- Byte strings: fitting, and what stays made of bytes.
use Rattle.std.proofs.Common.{◌≡◌, ℕ, zero, suc, ◌+◌, ◌-◌, ◌<◌, ◌≤◌, ◌⊎◌, inl, inr, [], ◌∷◌, ◌++◌, length, get_or, replicate, map, bit_and, bit_or, bit_xor, refl, sym, ◌∙◌, ap, arith, lit<}
use Rattle.std.specs.Prelude.{Option, Some, None, unwrap_or, zip}
use Rattle.std.proofs.lemmas.Bool.{cases_lt}
use Rattle.std.proofs.lemmas.List.{length-append, length-replicate, length-take-le, get_or-take, get_or_append_left, get_or-append_right, get_or-replicate, get_or_past}
use Rattle.std.proofs.lemmas.Nat.{and_le_l, or_lt, xor_lt}
use Rattle.atomic_ops.specs.Bytes.{Bytes, IsBytes, fitted, bytes_and, bytes_or, bytes_xor}

room : (old : Bytes) (n : ℕ) → length (old ++ replicate n 0) ≡ length old + n
room old n = length-append old (replicate n 0) ∙ ap (λ k. length old + k) (length-replicate n 0)

pub length-fitted : (old : Option Bytes) (n : ℕ) → length (fitted old n) ≡ n
length-fitted (Some old) n = let long : length (old ++ replicate n 0) ≡ length old + n = room old n in length-take-le n (old ++ replicate n 0) (omega arith)
length-fitted None n = length-replicate n 0

padded_at : (old : Bytes) (n i : ℕ) → i < n → get_or (old ++ replicate n 0) i 0 ≡ get_or old i 0
padded_at old n i h = by (cases_lt i (length old))
  where
    by : (i < length old) ⊎ (length old ≤ i) → get_or (old ++ replicate n 0) i 0 ≡ get_or old i 0
    by (inl inside) = get_or_append_left old (replicate n 0) 0 i inside
    by (inr past) =
        get_or-append_right old (replicate n 0) (length old) i 0 refl past
        ∙ get_or-replicate n (i - length old) 0 0 (omega arith) ∙ sym (get_or_past old i 0 past)

pub fitted_at : (old : Option Bytes) (n i : ℕ) → i < n → get_or (fitted old n) i 0 ≡ get_or (unwrap_or old []) i 0
fitted_at (Some old) n i h = get_or-take n (old ++ replicate n 0) i 0 h ∙ padded_at old n i h
fitted_at None n i h = get_or-replicate n i 0 0 h

along : (x y : ℕ) → x ≡ y → y < 256 → x < 256
along x y e h = rw e h

pub fitted_are_bytes : (old : Option Bytes) (n : ℕ) → IsBytes (unwrap_or old []) → IsBytes (fitted old n)
fitted_are_bytes old n h i = by (cases_lt i n)
  where
    by : (i < n) ⊎ (n ≤ i) → get_or (fitted old n) i 0 < 256
    by (inl inside) = along _ _ (fitted_at old n i inside) (h i)
    by (inr past) = along _ _ (get_or_past (fitted old n) i 0 (rw (length-fitted old n) past)) (lit< tt)

pub zipped_are_bytes : (f : ℕ → ℕ → ℕ) → ((x y : ℕ) → x < 256 → y < 256 → f x y < 256) → (xs ys : Bytes) → IsBytes xs → IsBytes ys
    → IsBytes (map (λ (x, y). f x y) (zip xs ys))
zipped_are_bytes f small [] ys hx hy i = lit< tt
zipped_are_bytes f small (x ∷ xs) [] hx hy i = lit< tt
zipped_are_bytes f small (x ∷ xs) (y ∷ ys) hx hy zero = small x y (hx 0) (hy 0)
zipped_are_bytes f small (x ∷ xs) (y ∷ ys) hx hy (suc i) = zipped_are_bytes f small xs ys (λ j. hx (suc j)) (λ j. hy (suc j)) i

pub and_are_bytes : (xs ys : Bytes) → IsBytes xs → IsBytes ys → IsBytes (bytes_and xs ys)
and_are_bytes = zipped_are_bytes bit_and (λ x y hx hy. let le : bit_and x y ≤ x = and_le_l x y in omega arith)

pub or_are_bytes : (xs ys : Bytes) → IsBytes xs → IsBytes ys → IsBytes (bytes_or xs ys)
or_are_bytes = zipped_are_bytes bit_or (or_lt 8)

pub xor_are_bytes : (xs ys : Bytes) → IsBytes xs → IsBytes ys → IsBytes (bytes_xor xs ys)
xor_are_bytes = zipped_are_bytes bit_xor (xor_lt 8)

pub length-zipped : (f : ℕ → ℕ → ℕ) (xs ys : Bytes) → length xs ≡ length ys → length (map (λ (x, y). f x y) (zip xs ys)) ≡ length ys
length-zipped f [] [] h = refl
length-zipped f [] (y ∷ ys) h = absurd (omega arith)
length-zipped f (x ∷ xs) [] h = absurd (omega arith)
length-zipped f (x ∷ xs) (y ∷ ys) h = ap suc (length-zipped f xs ys (omega arith))

pub appended_are_bytes : (xs ys : Bytes) → IsBytes xs → IsBytes ys → IsBytes (xs ++ ys)
appended_are_bytes [] ys hx hy i = hy i
appended_are_bytes (x ∷ xs) ys hx hy zero = hx 0
appended_are_bytes (x ∷ xs) ys hx hy (suc i) = appended_are_bytes xs ys (λ j. hx (suc j)) hy i
