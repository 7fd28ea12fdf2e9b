-- The digits of a number are enough, and fewer aren't.
use Rattle.std.proofs.Common.{◌≡◌, ℕ, zero, suc, ◌+◌, ◌-◌, ◌*◌, ◌^◌, ◌<◌, ◌≤◌, ⊎_elim, sym, subst, arith, nat_lt}
use Rattle.std.proofs.Math.Nat.{pow-suc}
use Rattle.std.proofs.lemmas.Bool.{cases_lt, ltb-true, ltb-false}
use Rattle.mutations.proofs.Basics.{by_test}
use Rattle.versioned_kv.specs.Digits.{first_past, digits}
use Rattle.versioned_kv.specs.Laws.{DigitsLaw}

below_power : (n : ℕ) → n < 2 ^ n
below_power zero = omega arith
below_power (suc n) = let h = below_power n in let e = pow-suc 2 n in omega arith

enough : (n d tries : ℕ) → n < 2 ^ (d + tries) → n < 2 ^ first_past n d tries
enough n d zero h = let e : d + 0 ≡ d = omega arith in subst (λ k. n < 2 ^ k) e h
enough n d (suc tries) h = by_test (nat_lt n (2 ^ d)) (λ k. n < 2 ^ k) d (first_past n (d + 1) tries) (λ t. ltb-true n (2 ^ d) t) (λ t. let e : d + suc tries ≡ d + 1 + tries = omega arith in enough n (d + 1) tries (subst (λ k. n < 2 ^ k) e h))

power_up : (d more : ℕ) → 2 ^ d ≤ 2 ^ (d + more)
power_up d zero = let e : d + 0 ≡ d = omega arith in subst (λ k. 2 ^ d ≤ 2 ^ k) (sym e) (omega arith)
power_up d (suc more) = let h = power_up d more in let e = pow-suc 2 (d + more) in let f : d + suc more ≡ suc (d + more) = omega arith in subst (λ k. 2 ^ d ≤ 2 ^ k) (sym f) (omega arith)

-- a power that isn't past n has fewer twos
fewer : (n d e : ℕ) → 2 ^ d ≤ n → n < 2 ^ e → d + 1 ≤ e
fewer n d e h g = ⊎_elim (λ l. omega arith) (λ l. let m : e + (d - e) ≡ d = omega arith in let p : 2 ^ e ≤ 2 ^ d = subst (λ k. 2 ^ e ≤ 2 ^ k) m (power_up e (d - e)) in absurd (omega arith)) (cases_lt d e)

least : (n d tries e : ℕ) → d ≤ e → n < 2 ^ e → first_past n d tries ≤ e
least n d zero e l h = l
least n d (suc tries) e l h = by_test (nat_lt n (2 ^ d)) (λ k. k ≤ e) d (first_past n (d + 1) tries) (λ t. l) (λ t. least n (d + 1) tries e (fewer n d e (ltb-false n (2 ^ d) t) h) h)

pub digits_law : DigitsLaw
digits_law n = record { enough = enough n 0 n (let e : 0 + n ≡ n = omega arith in subst (λ k. n < 2 ^ k) (sym e) (below_power n)); least = λ e h. least n 0 n e (omega arith) h }

-- a bound for all numbers of digits that are enough is one for the digits
pub by_digits : (a b start now : ℕ) → ((d e : ℕ) → a < 2 ^ d → b < 2 ^ e → now ≤ start + (2 * d + e + 2)) → now ≤ start + (2 * digits a + 2 * digits b + 4)
by_digits a b start now f = let h = f (digits a) (digits b) (digits_law a).enough (digits_law b).enough in omega arith
