-- One more item at the end of a list.
use Rattle.std.specs.Prelude.{◌≡◌, List, [], ◌∷◌, ◌++◌, refl}
use Rattle.std.specs.List.{AllByRecursion}
use Rattle.std.proofs.Common.{ap, sym, subst, inl, inr}
use Rattle.fb_bytes.specs.Options.{IsIn}

pub append_nil : {X : Type 0} (xs : List X) → xs ++ [] ≡ xs
append_nil [] = refl
append_nil (x ∷ xs) = ap (λ ys. x ∷ ys) (append_nil xs)

pub All-snoc : {X : Type 0} (P : X → Type 0) (xs : List X) (x : X) → AllByRecursion P xs → P x → AllByRecursion P (xs ++ x ∷ [])
All-snoc P [] x a p = (p, tt)
All-snoc P (y ∷ ys) x a p = (a.0, All-snoc P ys x a.1 p)

pub All-weaker : {X : Type 0} (P Q : X → Type 0) (xs : List X) → ((x : X) → P x → Q x) → AllByRecursion P xs → AllByRecursion Q xs
All-weaker P Q [] f a = tt
All-weaker P Q (x ∷ xs) f a = (f x a.0, All-weaker P Q xs f a.1)

-- what is so of all is so of one of them
pub of_all : {X : Type 0} (P : X → Type 0) (xs : List X) (x : X) → AllByRecursion P xs → IsIn x xs → P x
of_all P [] x a i = absurd i
of_all P (y ∷ ys) x a i = elim i [ inl e ↦ subst P (sym e) a.0 | inr r ↦ of_all P ys x a.1 r ]

-- what is in a list is in a longer one
pub in_more : {X : Type 0} (x : X) (xs more : List X) → IsIn x xs → IsIn x (xs ++ more)
in_more x [] more i = absurd i
in_more x (y ∷ ys) more i = elim i [ inl e ↦ inl e | inr r ↦ inr (in_more x ys more r) ]
