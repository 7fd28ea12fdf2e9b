-- Byte strings that end in a given byte.
use Rattle.std.specs.Prelude.{◌≡◌, ℕ, Bool, true, false, ◌&&◌, [], ◌∷◌, ◌++◌, nat_eq, refl}
use Rattle.std.proofs.Common.{ap, ◌∙◌}
use Rattle.fb_bytes.specs.Bytes.{Bytes, is_same}
use Rattle.mutations.proofs.Basics.{and_true, and_false}

and_assoc : (a b c : Bool) → (a && (b && c)) ≡ ((a && b) && c)
and_assoc true b c = refl
and_assoc false b c = refl

none_longer : (xs : Bytes) (b : ℕ) → is_same [] (xs ++ b ∷ []) ≡ false
unfolding is_same
none_longer [] b = refl
none_longer (x ∷ xs) b = refl

longer_none : (xs : Bytes) (a : ℕ) → is_same (xs ++ a ∷ []) [] ≡ false
unfolding is_same
longer_none [] a = refl
longer_none (x ∷ xs) a = refl

-- two strings with a byte more are the same where the strings and the bytes are
pub is_same-snoc : (xs ys : Bytes) (a b : ℕ) → is_same (xs ++ a ∷ []) (ys ++ b ∷ []) ≡ (is_same xs ys && nat_eq a b)
unfolding is_same
is_same-snoc [] [] a b = and_true (nat_eq a b)
is_same-snoc [] (y ∷ ys) a b = ap (λ v. nat_eq a y && v) (none_longer ys b) ∙ and_false (nat_eq a y)
is_same-snoc (x ∷ xs) [] a b = ap (λ v. nat_eq x b && v) (longer_none xs a) ∙ and_false (nat_eq x b)
is_same-snoc (x ∷ xs) (y ∷ ys) a b = ap (λ v. nat_eq x y && v) (is_same-snoc xs ys a b) ∙ and_assoc (nat_eq x y) (is_same xs ys) (nat_eq a b)

pub is_same-none : (ys : Bytes) (b : ℕ) → is_same [] (ys ++ b ∷ []) ≡ false
is_same-none = none_longer
