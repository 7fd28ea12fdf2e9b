-- What holds of all dumps, commits and reads.
use Rattle.std.specs.Prelude.{◌≡◌, ◌≢◌, ℕ, ◌+◌, ◌<◌, ◌≤◌, ◌^◌, true, List, [], ◌∷◌, ◌++◌, length, Some, None}
use Rattle.std.specs.Prelude.{Ok, Err, option_map}
use Rattle.std.specs.List.{AllByRecursion, filter}
use Rattle.fb_bytes.specs.Bytes.{Bytes}
use Rattle.fb_bytes.specs.declared.KeyRange.{KeyRange}
use Rattle.fb_bytes.specs.declared.Pair.{Pair}
use Rattle.fb_bytes.specs.Keys.{holds}
use Rattle.fb_bytes.specs.Options.{IsIn}
use Rattle.fb_bytes.specs.Pairs.{AreRising, value_of}
use Rattle.block_frame.specs.Profiles.{key_limit_of, limit_of}
use Rattle.mutations.specs.declared.Entry.{Entry}
use Rattle.mutations.specs.declared.Mutation.{Mutation}
use Rattle.mutations.specs.declared.TxOp.{TxOp}
use Rattle.mutations.specs.Clipping.{all_clipped}
use Rattle.mutations.specs.Histories.{IsRising, locked}
use Rattle.mutations.specs.Spelling.{mutations_spelling}
use Rattle.mutations.specs.Transactions.{tx_fault, writes_of}
use Rattle.database.specs.declared.commit_fault.CommitFault.{CommitFault}
use Rattle.database.specs.declared.commit_fault.CommitFault.TheVariants.{Locked, TooOld, NotCommitted}
use Rattle.database.specs.declared.commit_fault.CommitFault.TheVariants.{VersionsSpent, LogTooLarge}
use Rattle.database.specs.declared.commit_fault.CommitFault.TheVariants.{NoMemory}
use Rattle.database.specs.Faults.{of_transaction}
use Rattle.database.specs.Logs.{JobLog, AreLoggable}
use Rattle.database.specs.Reads.{reads_at, is_conflict_read, first_conflict}
use Rattle.database.specs.Commits.{Scene, most_version, oldest_at, large_in, commit_answer}
use Rattle.database.specs.Dumps.{value_within, pairs_at, FitBlock, AreMutationsWithin, AreWithin}

-- These pairs are the state of the range at the version, in order, and within the limits where the
-- history is.
pub record IsDump (block : ℕ) (history : List Entry) (version : ℕ) (range : KeyRange)
    (pairs : List Pair) : Type 0 where
  pub rising : AreRising pairs
  pub told : (key : Bytes) → value_of pairs key ≡ value_within block history version range key
  pub held : AllByRecursion (λ (pair : Pair). holds range pair.key ≡ true) pairs
  pub fit : AreWithin block history
      → AllByRecursion (λ (pair : Pair). FitBlock block pair.key pair.value) pairs

-- what is dumped is the state of the range
abbrev pub DumpLaw : Type 0
DumpLaw = (block : ℕ) (history : List Entry) (version : ℕ) (range : KeyRange)
    → IsDump block history version range (pairs_at block history version range)

-- The version is the next one, the writes are within the limits, and each log has a spelling of
-- what it takes of them. Nothing stood against it: no lock, an age, an entry since.
pub record IsTaken (scene : Scene) (read : ℕ) (ops : List TxOp) (version : ℕ) : Type 0 where
  pub next : version ≡ scene.time + scene.pace
  pub most : version ≤ most_version
  pub within : AreMutationsWithin scene.block (writes_of ops)
  pub logged : AreLoggable (writes_of ops) scene.logs
  pub unlocked : locked scene.history ≡ None
  pub young : oldest_at scene.time ≤ read
  pub alone : first_conflict ops read scene.history ≡ None

-- what a commit that takes a version keeps to
abbrev pub CommitLaw : Type 0
CommitLaw = (scene : Scene) (read : ℕ) (ops : List TxOp) (version : ℕ)
    → commit_answer scene read ops ≡ Ok (Some version) → IsTaken scene read ops version

-- no version is taken without writes alone
abbrev pub ReadOnlyLaw : Type 0
ReadOnlyLaw = (scene : Scene) (read : ℕ) (ops : List TxOp) → commit_answer scene read ops ≡ Ok None
    → writes_of ops ≡ []

-- why a commit was refused
abbrev pub IsCause : Scene → ℕ → List TxOp → CommitFault → Type 0
IsCause scene read ops (Locked uid) = locked scene.history ≡ Some uid
IsCause scene read ops (TooOld of oldest) =
    (of ≡ read) × (oldest ≡ oldest_at scene.time) × (read < oldest)
IsCause scene read ops (NotCommitted version) =
    (writes_of ops ≢ []) × (first_conflict ops read scene.history ≡ Some version)
IsCause scene read ops (VersionsSpent version) =
    (version ≡ scene.time) × (most_version < version + scene.pace)
IsCause scene read ops (LogTooLarge bytes) = large_in scene.logs (writes_of ops) ≡ Some bytes
IsCause scene read ops NoMemory = ⊥
IsCause scene read ops fault =
    option_map of_transaction (tx_fault (key_limit_of scene.block) (limit_of scene.block) ops)
    ≡ Some fault

abbrev pub CauseLaw : Type 0
CauseLaw = (scene : Scene) (read : ℕ) (ops : List TxOp) (fault : CommitFault)
    → commit_answer scene read ops ≡ Err fault → IsCause scene read ops fault

-- the bytes that are too many for a log are those of one of the jobs that log
abbrev pub LargeLaw : Type 0
LargeLaw = (logs : List JobLog) (muts : List Mutation) (bytes : ℕ) → large_in logs muts ≡ Some bytes
    → (log : JobLog) × IsIn log logs × (2 ^ 32 ≤ bytes)
    × (bytes ≡ length (mutations_spelling (all_clipped log.ranges muts)))

-- What an entry at the end of a history changes of reads and conflicts: nothing before its version.
pub record LeavesReads (block : ℕ) (history : List Entry) (entry : Entry) : Type 0 where
  pub reads : (version : ℕ) (ops : List TxOp) → version < entry.version
      → reads_at block (history ++ entry ∷ []) version ops ≡ reads_at block history version ops
  -- the first conflict stays the first
  pub conflict : (read version : ℕ) (ops : List TxOp)
      → first_conflict ops read history ≡ Some version
      → first_conflict ops read (history ++ entry ∷ []) ≡ Some version

abbrev pub LeavesReadsLaw : Type 0
LeavesReadsLaw = (block : ℕ) (history : List Entry) (entry : Entry)
    → LeavesReads block history entry

-- Where no entry since the read version conflicts, what the conflict reads find at a later version
-- is what they found.
abbrev pub SerialLaw : Type 0
SerialLaw = (block : ℕ) (history : List Entry) (read version : ℕ) (ops : List TxOp)
    → IsRising history → read ≤ version → first_conflict ops read history ≡ None
    → reads_at block history version (filter is_conflict_read ops)
    ≡ reads_at block history read (filter is_conflict_read ops)
