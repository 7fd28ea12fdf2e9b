-- How many binary digits a number has.
use Rattle.std.specs.Prelude.{ℕ, zero, suc, ◌+◌, ◌^◌, ◌<◌, ◌≤◌, nat_lt, if◌then◌else◌}

-- the first of d, d + 1, .. whose power of two is past n, in so many tries
abbrev pub first_past : ℕ → ℕ → ℕ → ℕ
first_past n d zero = d
first_past n d (suc tries) = if nat_lt n (2 ^ d) then d else first_past n (d + 1) tries

-- the least d with n < 2 ^ d
abbrev pub digits : ℕ → ℕ
digits n = first_past n 0 n

-- so many digits are enough, and fewer aren't
pub record AreDigits (n d : ℕ) : Type 0 where
  pub enough : n < 2 ^ d
  pub least : (e : ℕ) → n < 2 ^ e → d ≤ e
