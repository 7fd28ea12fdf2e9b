-- The logs of jobs, in the order of the jobs' numbers.
use Rattle.std.specs.Prelude.{ℕ, ◌<◌, ◌^◌, not, max, List, [], ◌∷◌, length, map, Option, Some}
use Rattle.std.specs.Prelude.{None, nat_eq, nat_lt, if◌then◌else◌}
use Rattle.std.specs.List.{AllByRecursion, filter}
use Rattle.mutations.specs.declared.Mutation.{Mutation}
use Rattle.mutations.specs.Clipping.{all_clipped}
use Rattle.mutations.specs.Spelling.{mutations_spelling}
pub use Rattle.database.specs.declared.job_log.JobLog.{JobLog}

-- the log of a job, where it logs
abbrev pub log_of : List JobLog → ℕ → Option JobLog
log_of [] job = None
log_of (log ∷ logs) job = if nat_eq log.job job then Some log else log_of logs job

-- one log more, behind those of the jobs with lower numbers
abbrev pub with_log : JobLog → List JobLog → List JobLog
with_log new [] = new ∷ []
with_log new (log ∷ logs) =
    if nat_lt log.job new.job then log ∷ with_log new logs else new ∷ log ∷ logs

-- the logs of the other jobs
abbrev pub without_log : ℕ → List JobLog → List JobLog
without_log job logs = filter (λ (log : JobLog). not (nat_eq log.job job)) logs

-- each log has a spelling of what it takes of the mutations
abbrev pub AreLoggable : List Mutation → List JobLog → Type 0
AreLoggable muts logs =
    AllByRecursion
    (λ (log : JobLog). length (mutations_spelling (all_clipped log.ranges muts)) < 2 ^ 32) logs

-- the log of a job, once what it logged before a version is erased
abbrev pub erased_to : ℕ → ℕ → JobLog → JobLog
erased_to job below log =
    if nat_eq log.job job then record log { erased = max log.erased below } else log

abbrev pub with_erased : ℕ → ℕ → List JobLog → List JobLog
with_erased job below logs = map (erased_to job below) logs
