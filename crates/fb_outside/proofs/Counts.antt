-- Counts over several calls.
use Rattle.std.proofs.Common.{ℕ, ◌≤◌, arith}
use Rattle.fb_outside.specs.Faults.{Counts}

-- a count that never fell, over one call more
pub later : (first old new : ℕ) (Failing : Type 0) → first ≤ old → Counts old new Failing → first ≤ new
later first old new Failing h c = let l : old ≤ new = c.later in omega arith
