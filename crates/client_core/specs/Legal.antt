-- What a history owes to a client, and its outcomes to its script.
use Rattle.std.specs.Prelude.{◌≡◌, ℕ, ◌+◌, ◌-◌, ◌^◌, ◌<◌, ◌≤◌, Bool, false, List, [], ◌∷◌, ◌++◌}
use Rattle.std.specs.Prelude.{length, Option, Some, None, option_map, nat_eq, slice_get}
use Rattle.std.specs.Prelude.{if◌then◌else◌}
use Rattle.std.specs.List.{AllByRecursion, filter}
use Rattle.fb_bytes.specs.declared.KeyRange.{KeyRange}
use Rattle.fb_bytes.specs.Options.{IsIn}
use Rattle.block_frame.specs.Profiles.{key_limit_of, limit_of}
use Rattle.mutations.specs.declared.Entry.{Entry}
use Rattle.mutations.specs.declared.Who.{Who}
use Rattle.mutations.specs.declared.Who.TheVariants as who
use Rattle.mutations.specs.declared.TxOp.{TxOp}
use Rattle.mutations.specs.Clipping.{all_clipped}
use Rattle.mutations.specs.Spelling.{mutations_spelling}
use Rattle.mutations.specs.Transactions.{tx_fault, writes_of}
use Rattle.database.specs.declared.CommitFault.{CommitFault}
use Rattle.database.specs.declared.CommitFault.TheVariants.{Locked, TooOld, NotCommitted}
use Rattle.database.specs.declared.CommitFault.TheVariants.{VersionsSpent, LogTooLarge, NoMemory}
use Rattle.database.specs.Commits.{most_version}
use Rattle.database.specs.Faults.{of_transaction}
use Rattle.database.specs.Reads.{reads_at, is_conflict_read, first_conflict}
use Rattle.client_core.specs.declared.outcome.Outcome.{Outcome}
use Rattle.client_core.specs.declared.outcome.End.{End}
use Rattle.client_core.specs.declared.outcome.End.TheVariants.{Commit, ReadOnly, Fault}
use Rattle.client_core.specs.Ends.{version_of, next_place, next_attempt}

-- what a client's outcomes are measured by: the block, the pace, how often a transaction is tried,
-- the ranges of the jobs that were to log its database, and the database's history
pub record Ground : Type 0 where
  pub block : ℕ
  pub pace : ℕ
  pub tries : ℕ
  pub logged : List (List KeyRange)
  pub history : List Entry

-- ---- the script

-- The outcomes go through the script of so many transactions: the first one is this try of this
-- transaction, and each later one the next try of the same, or, where that isn't tried again, the
-- first try of the next. They may stop before the script.
abbrev pub Follow : ℕ → ℕ → ℕ → ℕ → List Outcome → Type 0
Follow tries count place attempt [] = Unit {0}
Follow tries count place attempt (outcome ∷ outcomes) =
    (outcome.place ≡ place) × (outcome.attempt ≡ attempt) × (place ≤ count)
    × Follow tries count (next_place tries outcome) (next_attempt tries outcome) outcomes

abbrev pub txn_or_none : Option (List TxOp) → List TxOp
txn_or_none None = []
txn_or_none (Some ops) = ops

-- the operations of the transaction of a number, counted from 1
abbrev pub ops_of : List (List TxOp) → ℕ → List TxOp
ops_of txns number = txn_or_none (slice_get txns (number - 1))

-- ---- the entries

-- the entry is by this client
abbrev pub is_by : ℕ → Who → Bool
is_by client (who.Client number place) = nat_eq number client
is_by client (who.Load job) = false
is_by client (who.Apply job) = false
is_by client (who.Lock job) = false
is_by client (who.Unlock job) = false

-- a client's entries in a history, in order
abbrev pub entries_by : ℕ → List Entry → List Entry
entries_by client [] = []
entries_by client (entry ∷ history) =
    if is_by client entry.who then entry ∷ entries_by client history else entries_by client history

-- the entry that a try made, if it took a version: of that version, by that transaction, with its
-- writes
abbrev pub entry_of : ℕ → Outcome → List TxOp → Option ℕ → List Entry
entry_of client outcome ops None = []
entry_of client outcome ops (Some version) =
    record { version = version; who = who.Client client outcome.place; muts = writes_of ops } ∷ []

-- the entries that a client's outcomes say, in order
abbrev pub committed : ℕ → List (List TxOp) → List Outcome → List Entry
committed client txns [] = []
committed client txns (outcome ∷ outcomes) =
    entry_of client outcome (ops_of txns outcome.place) (version_of outcome.end)
    ++ committed client txns outcomes

-- ---- the reads

-- a version that was taken isn't past this one
abbrev pub IsUpto : ℕ → Option ℕ → Type 0
IsUpto read None = Unit {0}
IsUpto read (Some version) = version ≤ read

-- each read version is at or past the versions of the commits before it
abbrev pub AreSince : List Outcome → Type 0
AreSince [] = Unit {0}
AreSince (outcome ∷ outcomes) =
    AllByRecursion (λ (later : Outcome). IsUpto later.read (version_of outcome.end)) outcomes
    × AreSince outcomes

-- What the conflict reads of a commit find at its read version is also what the history has just
-- before the commit's own version.
pub record HasRead (ground : Ground) (ops : List TxOp) (read version : ℕ) : Type 0 where
  pub before : read < version
  pub serial : reads_at ground.block ground.history (version - 1) (filter is_conflict_read ops)
      ≡ reads_at ground.block ground.history read (filter is_conflict_read ops)

-- ---- the causes of faults

-- the mutation bytes are too many for the log of one of these jobs
pub record IsLarge (logged : List (List KeyRange)) (ops : List TxOp) (bytes : ℕ) : Type 0 where
  pub ranges : List KeyRange
  pub among : IsIn ranges logged
  pub many : 2 ^ 32 ≤ bytes
  pub are : bytes ≡ length (mutations_spelling (all_clipped ranges (writes_of ops)))

-- the job has locked the database
pub record HasLocked (job : ℕ) (history : List Entry) : Type 0 where
  pub entry : Entry
  pub among : IsIn entry history
  pub by : entry.who ≡ who.Lock job

-- what a fault came of
abbrev pub HasCause : Ground → List TxOp → ℕ → CommitFault → Type 0
HasCause ground ops read (Locked uid) = HasLocked uid ground.history
HasCause ground ops read (TooOld of oldest) = (of ≡ read) × (read < oldest)
HasCause ground ops read (NotCommitted version) =
    first_conflict ops read ground.history ≡ Some version
HasCause ground ops read (VersionsSpent version) = most_version < version + ground.pace
HasCause ground ops read (LogTooLarge bytes) = IsLarge ground.logged ops bytes
HasCause ground ops read NoMemory = ⊥
HasCause ground ops read fault =
    option_map of_transaction (tx_fault (key_limit_of ground.block) (limit_of ground.block) ops)
    ≡ Some fault

-- ---- each outcome

-- All reads found what the history has at the read version, and a fault has its cause.
abbrev pub IsEnd : Ground → List TxOp → ℕ → End → Type 0
IsEnd ground ops read (Commit version reads) =
    (reads ≡ reads_at ground.block ground.history read ops) × HasRead ground ops read version
IsEnd ground ops read (ReadOnly reads) =
    (writes_of ops ≡ []) × (reads ≡ reads_at ground.block ground.history read ops)
IsEnd ground ops read (Fault fault) = HasCause ground ops read fault

-- The outcomes follow the script, and the client's entries in its database's history are exactly
-- those of its outcomes that committed, each once and in order. Their reads are those of the
-- history, and their faults have causes in it.
pub record IsLegal (ground : Ground) (client : ℕ) (txns : List (List TxOp))
    (outcomes : List Outcome) : Type 0 where
  pub follow : Follow ground.tries (length txns) 1 1 outcomes
  pub entries : entries_by client ground.history ≡ committed client txns outcomes
  pub since : AreSince outcomes
  pub ends : AllByRecursion
      (λ (outcome : Outcome).
      IsEnd ground (ops_of txns outcome.place) outcome.read outcome.end)
      outcomes
