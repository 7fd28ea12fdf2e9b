-- What a commit answers, and what it leaves.
use Rattle.std.specs.Prelude.{ℕ, ◌+◌, ◌-◌, ◌^◌, max, Bool, List, [], ◌∷◌, ◌++◌, length, Option, Some}
use Rattle.std.specs.Prelude.{None, option_map, Result, Ok, Err, nat_eq, nat_le, nat_lt}
use Rattle.std.specs.Prelude.{if◌then◌else◌}
use Rattle.fb_bytes.specs.Limits.{most_number}
use Rattle.block_frame.specs.Profiles.{key_limit_of, limit_of}
use Rattle.mutations.specs.declared.Entry.{Entry}
use Rattle.mutations.specs.declared.Who.{Who}
use Rattle.mutations.specs.declared.Mutation.{Mutation}
use Rattle.mutations.specs.declared.TxOp.{TxOp}
use Rattle.mutations.specs.Histories.{locked}
use Rattle.mutations.specs.Transactions.{tx_fault, writes_of, ◌or_else◌}
use Rattle.mutations.specs.Clipping.{all_clipped}
use Rattle.mutations.specs.Spelling.{mutations_spelling}
use Rattle.versioned_kv.specs.declared.Versions.{Versions}
use Rattle.database.specs.Faults.{of_transaction}
use Rattle.database.specs.Logs.{JobLog}
use Rattle.database.specs.Reads.{first_conflict}
use Rattle.database.specs.declared.commit_fault.CommitFault.{CommitFault}
use Rattle.database.specs.declared.commit_fault.CommitFault.TheVariants.{Locked, TooOld, NotCommitted}
use Rattle.database.specs.declared.commit_fault.CommitFault.TheVariants.{VersionsSpent, LogTooLarge}
use Rattle.database.specs.declared.lock_fault.LockFault.{LockFault}
use Rattle.database.specs.declared.lock_fault.LockFault.TheVariants as locks
use Rattle.database.specs.declared.lock_fault.UnlockFault.{UnlockFault}
use Rattle.database.specs.declared.lock_fault.UnlockFault.TheVariants as unlocks
use Rattle.database.specs.declared.system_fault.SystemFault.{SystemFault}
use Rattle.database.specs.declared.system_fault.SystemFault.TheVariants as system

-- what contracts see of a database
pub record Database : Type 0 where
  pub block : ℕ
  -- the oldest version that is kept
  pub oldest : ℕ
  pub history : List Entry
  -- the jobs that log, in the order of their numbers
  pub logs : List JobLog

-- What an entry is decided by: the block, the newest version and how far the next one is from it,
-- the jobs that log, and the history.
pub record Scene : Type 0 where
  pub block : ℕ
  pub time : ℕ
  pub pace : ℕ
  pub logs : List JobLog
  pub history : List Entry

abbrev pub scene_of : Database → Versions → Scene
scene_of db versions =
    record {
      block = db.block;
      time = versions.now;
      pace = versions.pace;
      logs = db.logs;
      history = db.history;
    }

-- how many versions a read version may be behind the newest one
abbrev pub most_behind : ℕ
most_behind = 5000000

-- the oldest version that can be read
abbrev pub oldest_at : ℕ → ℕ
oldest_at time = time - most_behind

-- the greatest version
abbrev pub most_version : ℕ
most_version = most_number

-- a batch has no spelling from 2 ^ 32 mutation bytes on
abbrev pub is_large : List Mutation → Bool
is_large muts = nat_le (2 ^ 32) (length (mutations_spelling muts))

-- the bytes that a log would take of these mutations, where they are too many
abbrev pub large_of : JobLog → List Mutation → Option ℕ
large_of log muts =
    if is_large (all_clipped log.ranges muts)
    then Some (length (mutations_spelling (all_clipped log.ranges muts))) else None

-- the same for the first of the logs for which they are too many
abbrev pub large_in : List JobLog → List Mutation → Option ℕ
large_in [] muts = None
large_in (log ∷ logs) muts = large_of log muts or_else large_in logs muts

abbrev pub unless_large : Option ℕ → ℕ → Result (Option ℕ) CommitFault
unless_large None version = Ok (Some version)
unless_large (Some bytes) version = Err (LogTooLarge bytes)

-- without writes no version is taken; else the next one is, where there is one and the writes
-- aren't too large for a log
abbrev pub version_taken : ℕ → ℕ → List JobLog → List Mutation → Result (Option ℕ) CommitFault
version_taken time pace logs [] = Ok None
version_taken time pace logs (m ∷ ms) =
    if nat_lt most_version (time + pace) then Err (VersionsSpent time)
    else unless_large (large_in logs (m ∷ ms)) (time + pace)

-- the job that holds the lock
abbrev pub locked_fault : List Entry → Option CommitFault
locked_fault history = option_map Locked (locked history)

-- the read version is too old
abbrev pub age_fault : ℕ → ℕ → Option CommitFault
age_fault time read =
    if nat_lt read (oldest_at time) then Some (TooOld read (oldest_at time)) else None

-- the first conflict of a transaction that writes
abbrev pub conflict_fault : List Mutation → List TxOp → ℕ → List Entry → Option CommitFault
conflict_fault [] ops read history = None
conflict_fault (m ∷ ms) ops read history =
    option_map NotCommitted (first_conflict ops read history)

-- the first fault of what comes before a version is taken, each test going over all operations
-- before the next one
abbrev pub fault_before : Scene → ℕ → List TxOp → Option CommitFault
fault_before scene read ops =
    option_map of_transaction (tx_fault (key_limit_of scene.block) (limit_of scene.block) ops)
    or_else locked_fault scene.history
    or_else age_fault scene.time read
    or_else conflict_fault (writes_of ops) ops read scene.history

abbrev pub unless_fault : Option CommitFault → Result (Option ℕ) CommitFault
    → Result (Option ℕ) CommitFault
unless_fault None answer = answer
unless_fault (Some fault) answer = Err fault

-- the version that a commit takes, or its first fault, by the version that its reads see
abbrev pub commit_answer : Scene → ℕ → List TxOp → Result (Option ℕ) CommitFault
commit_answer scene read ops =
    unless_fault (fault_before scene read ops)
    (version_taken scene.time scene.pace scene.logs (writes_of ops))

-- the history with the entry of a version that was taken
abbrev pub history_after : Option ℕ → Who → List Mutation → List Entry → List Entry
history_after None who muts history = history
history_after (Some version) who muts history =
    history ++ record { version = version; who = who; muts = muts } ∷ []

-- the newest version, once one may have been taken
abbrev pub time_after : Option ℕ → ℕ → ℕ
time_after None time = time
time_after (Some version) time = version

-- the oldest version that is kept, once an entry may have been made
abbrev pub oldest_after : Option ℕ → ℕ → ℕ → ℕ
oldest_after None time oldest = oldest
oldest_after (Some version) time oldest = max oldest (oldest_at time)

-- the database with the entry of a version that was taken
abbrev pub database_after : Option ℕ → ℕ → Who → List Mutation → Database → Database
database_after version time who muts db =
    record db {
      oldest = oldest_after version time db.oldest;
      history = history_after version who muts db.history;
    }

-- ---- the entries and logs of jobs

-- the version that a step of a job takes, where there is one
abbrev pub next_version : ℕ → ℕ → Result ℕ SystemFault
next_version time pace =
    if nat_lt most_version (time + pace) then Err (system.VersionsSpent time) else Ok (time + pace)

abbrev pub unless_large_entry : Option ℕ → Result ℕ SystemFault → Result ℕ SystemFault
unless_large_entry None answer = answer
unless_large_entry (Some bytes) (Ok version) = Err (system.LogTooLarge bytes)
unless_large_entry (Some bytes) (Err fault) = Err fault

-- the version of a job's entry of these mutations, whatever the lock
abbrev pub entry_answer : Scene → List Mutation → Result ℕ SystemFault
entry_answer scene muts =
    unless_large_entry (large_in scene.logs muts) (next_version scene.time scene.pace)

-- what a job's fault of an entry is to who locks or unlocks
abbrev pub lock_result : Result ℕ SystemFault → Result ℕ LockFault
lock_result (Ok version) = Ok version
lock_result (Err fault) = Err (locks.System fault)

-- a lock is refused where one stands
abbrev pub lock_answer : Option ℕ → Result ℕ SystemFault → Result ℕ LockFault
lock_answer None answer = lock_result answer
lock_answer (Some uid) answer = Err (locks.Locked uid)

abbrev pub unlock_result : Result ℕ SystemFault → Result ℕ UnlockFault
unlock_result (Ok version) = Ok version
unlock_result (Err fault) = Err (unlocks.System fault)

-- an unlock is refused where the lock isn't the job's
abbrev pub unlock_answer : ℕ → Option ℕ → Result ℕ SystemFault → Result ℕ UnlockFault
unlock_answer job None answer = Err (unlocks.NotLocked None)
unlock_answer job (Some uid) answer =
    if nat_eq uid job then unlock_result answer else Err (unlocks.NotLocked (Some uid))
