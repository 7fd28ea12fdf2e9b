-- What follows from a reading in steps, each of which may meet a fault.
use Rattle.std.proofs.Common.{◌≡◌, ℕ, zero, suc, ◌<◌, Bool, true, false, cond, Option, Some, None, Result, Ok, Err, refl, sym, ◌∙◌, arith, inl, inr}
use Rattle.fb_bytes.specs.Results.{◌>>=◌, found_or, ok_side, FailsBut}

pub bind_ok : {A B E : Type 0} (r : Result A E) (f : A → Result B E) (y : B) → (r >>= f) ≡ Ok y → (x : A) × (r ≡ Ok x) × (f x ≡ Ok y)
bind_ok (Ok x) f y e = (x, refl, e)
bind_ok (Err fault) f y e = absurd cc

pub found_or_ok : {A E : Type 0} (fault : E) (o : Option A) (x : A) → found_or fault o ≡ Ok x → o ≡ Some x
found_or_ok fault (Some y) x e = cc
found_or_ok fault None x e = absurd cc

pub test_ok : {A E : Type 0} (b : Bool) (r : Result A E) (fault : E) (x : A) → cond b r (Err fault) ≡ Ok x → (b ≡ true) × (r ≡ Ok x)
test_ok true r fault x e = (refl, e)
test_ok false r fault x e = absurd cc

pub ok_is : {A E : Type 0} (x y : A) (r : Result A E) → r ≡ Ok x → r ≡ Ok y → x ≡ y
ok_is x y (Ok z) p q = let left : z ≡ x = cc in let right : z ≡ y = cc in sym left ∙ right
ok_is x y (Err d) p q = absurd cc

-- a fault of a step is a fault of what goes on from it
pub fails_on : {A B E : Type 0} (no_memory fault : E) (r : Result A E) (total : Result B E) → (r ≡ Err fault → total ≡ Err fault) → FailsBut no_memory fault r → FailsBut no_memory fault total
fails_on no_memory fault r total h (inl memory) = inl memory
fails_on no_memory fault r total h (inr met) = inr (h met)

pub ok_from_side : {A E : Type 0} (r : Result A E) (x : A) → ok_side r ≡ Some x → r ≡ Ok x
ok_from_side (Ok y) x e = cc
ok_from_side (Err f) x e = absurd cc

-- fuel that is enough is never used up
pub fuel_is : (n fuel : ℕ) → n < fuel → (less : ℕ) × (fuel ≡ suc less)
fuel_is n zero lt = absurd (omega arith)
fuel_is n (suc less) lt = (less, refl)
