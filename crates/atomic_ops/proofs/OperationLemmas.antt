-- The results of operations: how long they are, their bytes, and when there is none.
use Rattle.std.proofs.Common.{◌≡◌, ◌≢◌, ℕ, ◌+◌, ◌<◌, ◌≤◌, max, ◌⊎◌, inl, inr, Bool, true, false, cond, [], ◌++◌, length, bit_and, bit_or, bit_xor, refl, ap, arith, nat_le}
use Rattle.std.specs.Prelude.{Option, Some, None, unwrap_or, IfSome, IsSomeAnd}
use Rattle.std.specs.Cmp.Lexicographic.{bytes_decides}
use Rattle.std.proofs.lemmas.Bool.{cond_both, cond-true, cond-false, leb-true, lt-leb}
use Rattle.std.proofs.lemmas.List.{length-append}
use Rattle.atomic_ops.specs.declared.op.Op.{Op}
use Rattle.atomic_ops.specs.declared.op.Op.TheVariants.{Add, And, Or, Xor, AppendIfFits, Max, Min, ByteMin, ByteMax, MinV2, AndV2, CompareAndClear}
use Rattle.atomic_ops.specs.Bytes.{Bytes, IsBytes, is_same, fitted}
use Rattle.atomic_ops.specs.Laws.{has_param_length}
use Rattle.atomic_ops.specs.Operation.{appended, operation}
use Rattle.atomic_ops.proofs.ByteLemmas.{length-fitted, fitted_are_bytes, length-zipped, and_are_bytes, or_are_bytes, xor_are_bytes, appended_are_bytes}
use Rattle.atomic_ops.proofs.NumberLemmas.{length-number_bytes, number_bytes_are_bytes}

-- one of two strings that both have the fact
either : (b : Bool) (x y : Bytes) (P : Bytes → Type 0) → P x → P y → P (cond b x y)
either true x y P hx hy = hx
either false x y P hx hy = hy

-- ---- lengths

-- the same length, for a choice of a fitted string and the parameter
fitted_or_param : (b : Bool) (x y : Bytes) → length x ≡ length y → length (cond b y x) ≡ length y
fitted_or_param true x y h = refl
fitted_or_param false x y h = h

pub result_has_param_length : (op : Op) (old : Option Bytes) (param : Bytes) (limit : ℕ) → has_param_length op ≡ true
    → IsSomeAnd (operation op old param limit) (λ left. length left ≡ length param)
unfolding operation
result_has_param_length Add old param limit h = length-number_bytes (length param) _
result_has_param_length And old param limit h = length-zipped bit_and (fitted old (length param)) param (length-fitted old (length param))
result_has_param_length Or old param limit h = length-zipped bit_or (fitted old (length param)) param (length-fitted old (length param))
result_has_param_length Xor old param limit h = length-zipped bit_xor (fitted old (length param)) param (length-fitted old (length param))
result_has_param_length AppendIfFits old param limit h = cc
result_has_param_length Max old param limit h = fitted_or_param _ (fitted old (length param)) param (length-fitted old (length param))
result_has_param_length Min old param limit h = fitted_or_param _ (fitted old (length param)) param (length-fitted old (length param))
result_has_param_length ByteMin old param limit h = cc
result_has_param_length ByteMax old param limit h = cc
result_has_param_length MinV2 None param limit h = refl
result_has_param_length MinV2 (Some old) param limit h = fitted_or_param _ (fitted (Some old) (length param)) param (length-fitted (Some old) (length param))
result_has_param_length AndV2 None param limit h = refl
result_has_param_length AndV2 (Some old) param limit h = length-zipped bit_and (fitted (Some old) (length param)) param (length-fitted (Some old) (length param))
result_has_param_length CompareAndClear old param limit h = cc

no_longer_than_param : (result : Option Bytes) (param : Bytes) (n : ℕ) → IsSomeAnd result (λ left. length left ≡ length param)
    → IfSome result (λ left. length left ≤ max n (length param))
no_longer_than_param (Some left) param n h = omega arith
no_longer_than_param None param n h = absurd h

no_longer_byte_min : (old : Option Bytes) (param : Bytes) (limit : ℕ)
    → IfSome (operation ByteMin old param limit) (λ left. length left ≤ max (length (unwrap_or old [])) (length param))
unfolding operation
no_longer_byte_min None param limit = omega arith
no_longer_byte_min (Some old) param limit = either _ param old (λ left. length left ≤ max (length old) (length param)) (omega arith) (omega arith)

no_longer_byte_max : (old : Option Bytes) (param : Bytes) (limit : ℕ)
    → IfSome (operation ByteMax old param limit) (λ left. length left ≤ max (length (unwrap_or old [])) (length param))
unfolding operation
no_longer_byte_max None param limit = omega arith
no_longer_byte_max (Some old) param limit = either _ old param (λ left. length left ≤ max (length old) (length param)) (omega arith) (omega arith)

-- the old value, or nothing
old_or_none : (b : Bool) (old : Bytes) (P : Bytes → Type 0) → P old → IfSome (cond b None (Some old)) P
old_or_none true old P h = tt
old_or_none false old P h = h

no_longer_compare : (old : Option Bytes) (param : Bytes) (limit : ℕ)
    → IfSome (operation CompareAndClear old param limit) (λ left. length left ≤ max (length (unwrap_or old [])) (length param))
unfolding operation
no_longer_compare None param limit = tt
no_longer_compare (Some old) param limit = old_or_none (is_same old param) old (λ left. length left ≤ max (length old) (length param)) (omega arith)

pub result_is_no_longer : (op : Op) (old : Option Bytes) (param : Bytes) (limit : ℕ) → op ≢ AppendIfFits
    → IfSome (operation op old param limit) (λ left. length left ≤ max (length (unwrap_or old [])) (length param))
result_is_no_longer Add old param limit h = no_longer_than_param _ param _ (result_has_param_length Add old param limit refl)
result_is_no_longer And old param limit h = no_longer_than_param _ param _ (result_has_param_length And old param limit refl)
result_is_no_longer Or old param limit h = no_longer_than_param _ param _ (result_has_param_length Or old param limit refl)
result_is_no_longer Xor old param limit h = no_longer_than_param _ param _ (result_has_param_length Xor old param limit refl)
result_is_no_longer AppendIfFits old param limit h = absurd (h refl)
result_is_no_longer Max old param limit h = no_longer_than_param _ param _ (result_has_param_length Max old param limit refl)
result_is_no_longer Min old param limit h = no_longer_than_param _ param _ (result_has_param_length Min old param limit refl)
result_is_no_longer ByteMin old param limit h = no_longer_byte_min old param limit
result_is_no_longer ByteMax old param limit h = no_longer_byte_max old param limit
result_is_no_longer MinV2 old param limit h = no_longer_than_param _ param _ (result_has_param_length MinV2 old param limit refl)
result_is_no_longer AndV2 old param limit h = no_longer_than_param _ param _ (result_has_param_length AndV2 old param limit refl)
result_is_no_longer CompareAndClear old param limit h = no_longer_compare old param limit

appended_is_limited : (old param : Bytes) (limit : ℕ) → length (appended old param limit) ≤ max (length old) limit
appended_is_limited old param limit =
    cond_both (nat_le (length old + length param) limit) (old ++ param) old (λ left. length left ≤ max (length old) limit)
    (λ fits. let below : length old + length param ≤ limit = leb-true (length old + length param) limit fits in
    let long : length (old ++ param) ≡ length old + length param = length-append old param in omega arith)
    (λ _. omega arith)

pub append_is_limited : (old : Option Bytes) (param : Bytes) (limit : ℕ)
    → IsSomeAnd (operation AppendIfFits old param limit) (λ left. length left ≤ max (length (unwrap_or old [])) limit)
unfolding operation
append_is_limited old param limit = appended_is_limited (unwrap_or old []) param limit

if_shorter : (result : Option Bytes) (m n k : ℕ) → m ≤ k → n ≤ k → IfSome result (λ left. length left ≤ max m n) → IfSome result (λ left. length left ≤ k)
if_shorter (Some left) m n k hm hn h = omega arith
if_shorter None m n k hm hn h = tt

some_and : (result : Option Bytes) (P : Bytes → Type 0) → IsSomeAnd result P → IfSome result P
some_and (Some left) P h = h
some_and None P h = tt

pub result_is_within : (op : Op) (old : Option Bytes) (param : Bytes) (limit : ℕ) → length (unwrap_or old []) ≤ limit → length param ≤ limit
    → IfSome (operation op old param limit) (λ left. length left ≤ limit)
result_is_within op old param limit ho hp = by op refl
  where
    other : op ≢ AppendIfFits → IfSome (operation op old param limit) (λ left. length left ≤ limit)
    other h = if_shorter (operation op old param limit) _ _ limit ho hp (result_is_no_longer op old param limit h)

    by : (o : Op) → o ≡ op → IfSome (operation op old param limit) (λ left. length left ≤ limit)
    by AppendIfFits e = rw (← e) (if_shorter (operation AppendIfFits old param limit) _ _ limit ho (omega arith)
        (some_and (operation AppendIfFits old param limit) _ (append_is_limited old param limit)))
    by _ e = other (λ h. cc)

-- ---- bytes

pub result_is_bytes : (op : Op) (old : Option Bytes) (param : Bytes) (limit : ℕ) → IsBytes (unwrap_or old []) → IsBytes param
    → IfSome (operation op old param limit) (λ left. IsBytes left)
unfolding operation
result_is_bytes Add old param limit ho hp = number_bytes_are_bytes (length param) _
result_is_bytes And old param limit ho hp = and_are_bytes (fitted old (length param)) param (fitted_are_bytes old (length param) ho) hp
result_is_bytes Or old param limit ho hp = or_are_bytes (fitted old (length param)) param (fitted_are_bytes old (length param) ho) hp
result_is_bytes Xor old param limit ho hp = xor_are_bytes (fitted old (length param)) param (fitted_are_bytes old (length param) ho) hp
result_is_bytes AppendIfFits old param limit ho hp = either _ (unwrap_or old [] ++ param) (unwrap_or old []) IsBytes (appended_are_bytes (unwrap_or old []) param ho hp) ho
result_is_bytes Max old param limit ho hp = either _ param (fitted old (length param)) IsBytes hp (fitted_are_bytes old (length param) ho)
result_is_bytes Min old param limit ho hp = either _ param (fitted old (length param)) IsBytes hp (fitted_are_bytes old (length param) ho)
result_is_bytes ByteMin None param limit ho hp = hp
result_is_bytes ByteMin (Some old) param limit ho hp = either _ param old IsBytes hp ho
result_is_bytes ByteMax None param limit ho hp = hp
result_is_bytes ByteMax (Some old) param limit ho hp = either _ old param IsBytes ho hp
result_is_bytes MinV2 None param limit ho hp = hp
result_is_bytes MinV2 (Some old) param limit ho hp = either _ param (fitted (Some old) (length param)) IsBytes hp (fitted_are_bytes (Some old) (length param) ho)
result_is_bytes AndV2 None param limit ho hp = hp
result_is_bytes AndV2 (Some old) param limit ho hp = and_are_bytes (fitted (Some old) (length param)) param (fitted_are_bytes (Some old) (length param) ho) hp
result_is_bytes CompareAndClear None param limit ho hp = tt
result_is_bytes CompareAndClear (Some old) param limit ho hp = old_or_none (is_same old param) old IsBytes ho

-- ---- absence

pub clears : (old : Option Bytes) (param : Bytes) (limit : ℕ) → (old ≡ None) ⊎ (old ≡ Some param) → operation CompareAndClear old param limit ≡ None
unfolding operation
clears None param limit h = refl
clears (Some old) param limit (inl e) = cc
clears (Some old) param limit (inr e) = let same : old ≡ param = cc in cond-true (is_same old param) None (Some old) ((bytes_decides old param).1 same)

cleared_same : (b : Bool) (old param : Bytes) → is_same old param ≡ b → cond b None (Some old) ≡ None → Some old ≡ Some param
cleared_same true old param h e = ap Some ((bytes_decides old param).0 h)
cleared_same false old param h e = cc

pub only_clears : (op : Op) (old : Option Bytes) (param : Bytes) (limit : ℕ) → operation op old param limit ≡ None
    → (op ≡ CompareAndClear) × ((old ≡ None) ⊎ (old ≡ Some param))
unfolding operation
only_clears Add old param limit e = cc
only_clears And old param limit e = cc
only_clears Or old param limit e = cc
only_clears Xor old param limit e = cc
only_clears AppendIfFits old param limit e = cc
only_clears Max old param limit e = cc
only_clears Min old param limit e = cc
only_clears ByteMin None param limit e = cc
only_clears ByteMin (Some old) param limit e = cc
only_clears ByteMax None param limit e = cc
only_clears ByteMax (Some old) param limit e = cc
only_clears MinV2 None param limit e = cc
only_clears MinV2 (Some old) param limit e = cc
only_clears AndV2 None param limit e = cc
only_clears AndV2 (Some old) param limit e = cc
only_clears CompareAndClear None param limit e = (refl, inl refl)
only_clears CompareAndClear (Some old) param limit e = (refl, inr (cleared_same (is_same old param) old param refl e))

pub append_that_never_fits : (param : Bytes) (limit : ℕ) → limit < length param → operation AppendIfFits None param limit ≡ Some []
unfolding operation
append_that_never_fits param limit h = ap Some (cond-false (nat_le (0 + length param) limit) ([] ++ param) [] (lt-leb (0 + length param) limit (omega arith)))
