-- Tests and lists.
use Rattle.std.proofs.Common.{◌≡◌, Bool, true, false, not, ◌&&◌, cond, List, [], ◌∷◌, refl}
use Rattle.std.specs.List.{AllByRecursion}
pub use Rattle.fb_bytes.proofs.Order.{not_both}

-- what both cases of a test have
pub by_test : {X : Type 0} (b : Bool) (P : X → Type 0) (x y : X) → (b ≡ true → P x) → (b ≡ false → P y) → P (cond b x y)
by_test true P x y f g = f refl
by_test false P x y f g = g refl

pub and_swap : (p q r s : Bool) → ((p && q) && (r && s)) ≡ ((p && r) && (q && s))
and_swap false q r s = refl
and_swap true false false s = refl
and_swap true false true s = refl
and_swap true true false s = refl
and_swap true true true s = refl

pub not_true : (b : Bool) → not b ≡ true → b ≡ false
not_true true h = not_both h refl
not_true false h = refl

pub not_false : (b : Bool) → not b ≡ false → b ≡ true
not_false true h = refl
not_false false h = not_both refl h

-- ---- All

pub all_weaker : {X : Type 0} (P Q : X → Type 0) → ((x : X) → P x → Q x) → (xs : List X) → AllByRecursion P xs → AllByRecursion Q xs
all_weaker P Q f [] h = tt
all_weaker P Q f (x ∷ xs) h = (f x h.0, all_weaker P Q f xs h.1)

pub all_so : {X : Type 0} (P : X → Type 0) → ((x : X) → P x) → (xs : List X) → AllByRecursion P xs
all_so P f [] = tt
all_so P f (x ∷ xs) = (f x, all_so P f xs)

-- ---- and

pub and_true : (b : Bool) → (b && true) ≡ b
and_true true = refl
and_true false = refl

pub and_false : (b : Bool) → (b && false) ≡ false
and_false true = refl
and_false false = refl
