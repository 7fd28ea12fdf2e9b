-- Counts of faults, and of calls.
use Rattle.std.specs.Prelude.{◌≡◌, ℕ, ◌+◌, ◌<◌, ◌≤◌, nat_eq, ◌⊎◌, if◌then◌else◌}

-- where a count stays
abbrev pub most_faults : ℕ
most_faults = 18446744073709551615

-- a count after one more: at its end it stays
abbrev pub counted : ℕ → ℕ
counted count = if nat_eq count most_faults then count else count + 1

-- the count rose: it is greater, or it stood at its end already
abbrev pub Rose : ℕ → ℕ → Type 0
Rose old new = (old < new) ⊎ (old ≡ most_faults)

-- over a call the count never falls, and it rose where the call failed
pub record Counts (old new : ℕ) (Failing : Type 0) : Type 0 where
  pub later : old ≤ new
  pub rose : Failing → Rose old new

-- the two counts of a store
pub record Tally : Type 0 where
  pub calls : ℕ
  pub faults : ℕ
