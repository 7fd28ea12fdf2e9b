-- How a try to commit ends, and whether there is another one.
use Rattle.std.specs.Prelude.{ℕ, ◌+◌, Bool, true, false, ◌&&◌, List, Option, Some, None}
use Rattle.std.specs.Prelude.{Result, Ok, Err, nat_lt, if◌then◌else◌}
use Rattle.database.specs.declared.CommitFault.{CommitFault}
use Rattle.database.specs.declared.CommitFault.TheVariants.{TooOld, NotCommitted}
use Rattle.database.specs.declared.Found.{Found}
use Rattle.client_core.specs.declared.outcome.End.{End}
use Rattle.client_core.specs.declared.outcome.End.TheVariants.{Commit, ReadOnly, Fault}
use Rattle.client_core.specs.declared.outcome.Outcome.{Outcome}

-- the end that a commit's answer is, and what the reads found
abbrev pub end_of : Result (Option ℕ) CommitFault → List Found → End
end_of (Ok None) reads = ReadOnly reads
end_of (Ok (Some version)) reads = Commit version reads
end_of (Err fault) reads = Fault fault

-- the version that was taken, where one was
abbrev pub version_of : End → Option ℕ
version_of (Commit version reads) = Some version
version_of (ReadOnly reads) = None
version_of (Fault fault) = None

-- after these faults the transaction may be tried again
abbrev pub is_retried : CommitFault → Bool
is_retried (TooOld read oldest) = true
is_retried (NotCommitted version) = true
is_retried fault = false

abbrev pub is_retried_end : End → Bool
is_retried_end (Commit version reads) = false
is_retried_end (ReadOnly reads) = false
is_retried_end (Fault fault) = is_retried fault

-- with this many tries the transaction is tried again
abbrev pub goes_again : ℕ → Outcome → Bool
goes_again tries outcome = is_retried_end outcome.end && nat_lt outcome.attempt tries

-- the number of the transaction that is tried after an outcome: the same one, or the next
abbrev pub next_place : ℕ → Outcome → ℕ
next_place tries outcome = if goes_again tries outcome then outcome.place else outcome.place + 1

-- and the number of that try
abbrev pub next_attempt : ℕ → Outcome → ℕ
next_attempt tries outcome = if goes_again tries outcome then outcome.attempt + 1 else 1
