-- What can be read at a time could be read before.
use Rattle.std.specs.Prelude.{ℕ, ◌≤◌}
use Rattle.std.proofs.Common.{arith}
use Rattle.database.specs.Commits.{oldest_at}

pub oldest_later : (oldest now later : ℕ) → oldest ≤ oldest_at now → now ≤ later → oldest ≤ oldest_at later
oldest_later oldest now later h l = omega arith
