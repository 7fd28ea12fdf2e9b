-- Where the parts of a version begin.
use Rattle.std.specs.Prelude.{ℕ}
use Rattle.log_keys.specs.Keys.{Key}

-- the first key of a job and a version
abbrev pub first_at : ℕ → ℕ → Key
first_at job version = record { job = job; version = version; part = 0 }
