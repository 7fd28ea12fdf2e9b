-- Histories of databases: the state at a version, what a job logs, and the lock.
use Rattle.std.specs.Prelude.{ℕ, ◌+◌, List, [], ◌∷◌, map, Option, Some, None, if◌then◌else◌}
use Rattle.fb_bytes.specs.Bytes.{Bytes}
use Rattle.fb_bytes.specs.declared.KeyRange.{KeyRange}
use Rattle.mutations.specs.declared.history.Who.{Who}
use Rattle.mutations.specs.declared.history.Entry.{Entry}
use Rattle.mutations.specs.declared.history.Who.TheVariants.{Client, Load, Apply, Lock, Unlock}
use Rattle.mutations.specs.declared.mutation.Mutation.{Mutation}
use Rattle.mutations.specs.Clipping.{all_clipped}
use Rattle.mutations.specs.declared.batch.Batch.{Batch}
use Rattle.mutations.specs.Replay.{is_within, replayed, AreRising}

-- an entry, whoever made it
abbrev pub batch_of : Entry → Batch
batch_of entry = record { version = entry.version; muts = entry.muts }

abbrev pub batches_of : List Entry → List Batch
batches_of history = map batch_of history

-- the versions of a history rise strictly
abbrev pub IsRising : List Entry → Type 0
IsRising history = AreRising (batches_of history)

-- the value of a key after all entries up to the version, from nothing on
abbrev pub state_at : ℕ → List Entry → ℕ → Bytes → Option Bytes
state_at limit history version key = replayed limit (batches_of history) 0 (version + 1) key None

-- one more batch in front, unless it has no mutations
abbrev pub with_batch : ℕ → List Mutation → List Batch → List Batch
with_batch version [] rest = rest
with_batch version (m ∷ ms) rest = record { version = version; muts = m ∷ ms } ∷ rest

-- what a job with these ranges logs of the entries with begin <= version < end
abbrev pub logged : List Entry → List KeyRange → ℕ → ℕ → List Batch
logged [] ranges begin end = []
logged (x ∷ xs) ranges begin end =
    if is_within begin end x.version
    then with_batch x.version (all_clipped ranges x.muts) (logged xs ranges begin end)
    else logged xs ranges begin end

-- the job that holds the lock after an entry, by the holder before it
abbrev pub lock_after : Option ℕ → Who → Option ℕ
lock_after holder (Client client place) = holder
lock_after holder (Load job) = holder
lock_after holder (Apply job) = holder
lock_after holder (Lock job) = Some job
lock_after holder (Unlock job) = None

abbrev pub locked_since : Option ℕ → List Entry → Option ℕ
locked_since holder [] = holder
locked_since holder (x ∷ xs) = locked_since (lock_after holder x.who) xs

-- the job of the last lock or unlock entry, where that is a lock
abbrev pub locked : List Entry → Option ℕ
locked history = locked_since None history
