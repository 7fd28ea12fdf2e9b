-- What holds of all mutations, histories and batches.
use Rattle.std.specs.Prelude.{◌≡◌, ℕ, ◌+◌, ◌-◌, ◌<◌, ◌≤◌, ◌^◌, ◌↔◌, min, max, true, false, List, []}
use Rattle.std.specs.Prelude.{◌∷◌, ◌++◌, length, Option, Err}
use Rattle.std.specs.List.{AllByRecursion}
use Rattle.fb_bytes.specs.declared.KeyRange.{KeyRange}
use Rattle.fb_bytes.specs.Bytes.{Bytes}
use Rattle.fb_bytes.specs.Keys.{holds, in_ranges}
use Rattle.mutations.specs.declared.mutation.Mutation.{Mutation}
use Rattle.mutations.specs.declared.batch.Batch.{Batch}
use Rattle.mutations.specs.declared.history.Entry.{Entry}
use Rattle.mutations.specs.declared.wire_fault.WireFault.{WireFault}
use Rattle.mutations.specs.Effects.{effect, effects, touches_key, touches}
use Rattle.mutations.specs.Clipping.{all_clipped}
use Rattle.mutations.specs.Replay.{is_within, replayed, AreRising}
use Rattle.mutations.specs.Histories.{batches_of, IsRising, state_at, logged, lock_after, locked}
use Rattle.mutations.specs.Spelling.{mutations_spelling, framed, batch_spelling, IsForward}
use Rattle.mutations.specs.Spelling.{HasSpelling}
use Rattle.mutations.specs.Reading.{mutation_at, decoded}

-- a mutation leaves each key that it doesn't touch
abbrev pub UntouchedLaw : Type 0
UntouchedLaw =
    (limit : ℕ) (m : Mutation) (key : Bytes) (old : Option Bytes) → touches_key m key ≡ false
    → effect limit m key old ≡ old

-- a mutation touches a range exactly where it touches a key of the range
abbrev pub TouchLaw : Type 0
TouchLaw =
    (m : Mutation) (range : KeyRange) → (touches m range ≡ true)
    ↔ ((key : Bytes) × (holds range key ≡ true) × (touches_key m key ≡ true))

-- at a key of the ranges the clipped mutations do what the whole ones do, and elsewhere nothing
pub record IsClip (limit : ℕ) (ranges : List KeyRange) (muts : List Mutation) : Type 0 where
  pub inside : (key : Bytes) (old : Option Bytes) → in_ranges ranges key ≡ true
      → effects limit (all_clipped ranges muts) key old ≡ effects limit muts key old
  pub outside : (key : Bytes) (old : Option Bytes) → in_ranges ranges key ≡ false
      → effects limit (all_clipped ranges muts) key old ≡ old

abbrev pub ClipLaw : Type 0
ClipLaw = (limit : ℕ) (ranges : List KeyRange) (muts : List Mutation) → IsClip limit ranges muts

-- a span of versions may be replayed in two parts
abbrev pub ReplayJoinLaw : Type 0
ReplayJoinLaw =
    (limit : ℕ) (batches : List Batch) (low middle high : ℕ) (key : Bytes) (old : Option Bytes)
    → AreRising batches → low ≤ middle → middle ≤ high
    → replayed limit batches middle high key (replayed limit batches low middle key old)
    ≡ replayed limit batches low high key old

-- batches in two parts are replayed one after the other
abbrev pub ReplayAppendLaw : Type 0
ReplayAppendLaw =
    (limit : ℕ) (first second : List Batch) (low high : ℕ) (key : Bytes) (old : Option Bytes)
    → replayed limit (first ++ second) low high key old
    ≡ replayed limit second low high key (replayed limit first low high key old)

-- what an entry at the end of a history changes in the states: from its version on it has its
-- effect, and before it there is none
pub record Appends (limit : ℕ) (history : List Entry) (entry : Entry) : Type 0 where
  pub later : (version : ℕ) (key : Bytes) → entry.version ≤ version
      → state_at limit (history ++ entry ∷ []) version key
      ≡ effects limit entry.muts key (state_at limit history version key)
  pub earlier : (version : ℕ) (key : Bytes) → version < entry.version
      → state_at limit (history ++ entry ∷ []) version key ≡ state_at limit history version key

abbrev pub AppendLaw : Type 0
AppendLaw = (limit : ℕ) (history : List Entry) (entry : Entry) → Appends limit history entry

-- a state is that of an earlier version, and then the entries since
abbrev pub StateLaw : Type 0
StateLaw =
    (limit : ℕ) (history : List Entry) (earlier version : ℕ) (key : Bytes) → IsRising history
    → earlier ≤ version
    → replayed limit (batches_of history) (earlier + 1) (version + 1) key
    (state_at limit history earlier key) ≡ state_at limit history version key

-- what is logged from begin to middle, and then from middle to end, is what is logged from begin to
-- end
abbrev pub LoggedJoinLaw : Type 0
LoggedJoinLaw =
    (history : List Entry) (ranges : List KeyRange) (begin middle end : ℕ) → IsRising history
    → begin ≤ middle → middle ≤ end
    → logged history ranges begin middle ++ logged history ranges middle end
    ≡ logged history ranges begin end

-- what is logged of a history in two parts is logged of each part
abbrev pub LoggedAppendLaw : Type 0
LoggedAppendLaw =
    (first second : List Entry) (ranges : List KeyRange) (begin end : ℕ)
    → logged (first ++ second) ranges begin end
    ≡ logged first ranges begin end ++ logged second ranges begin end

-- batches whose versions rise within begin <= version < end
pub record IsLog (begin end : ℕ) (batches : List Batch) : Type 0 where
  pub within : AllByRecursion (λ x. is_within begin end x.version ≡ true) batches
  pub rising : AreRising batches

-- a log of a stretch has versions of the stretch alone, in rising order
abbrev pub LoggedLaw : Type 0
LoggedLaw =
    (history : List Entry) (ranges : List KeyRange) (begin end : ℕ) → IsRising history
    → IsLog begin end (logged history ranges begin end)

-- at a key of the ranges a log that is replayed does what the history does in the versions of both
abbrev pub LoggedReplayLaw : Type 0
LoggedReplayLaw =
    (limit : ℕ) (history : List Entry) (ranges : List KeyRange) (begin end low high : ℕ)
    (key : Bytes) (old : Option Bytes) → in_ranges ranges key ≡ true
    → replayed limit (logged history ranges begin end) low high key old
    ≡ replayed limit (batches_of history) (max begin low) (min end high) key old

-- at a key of the ranges the log of a stretch leads from the state before it to the state at its
-- end
abbrev pub LoggedStateLaw : Type 0
LoggedStateLaw =
    (limit : ℕ) (history : List Entry) (ranges : List KeyRange) (begin end : ℕ) (key : Bytes)
    → IsRising history → 0 < begin → begin ≤ end → in_ranges ranges key ≡ true
    → replayed limit (logged history ranges begin end) begin end key
    (state_at limit history (begin - 1) key) ≡ state_at limit history (end - 1) key

-- who holds the lock after one more entry
abbrev pub LockLaw : Type 0
LockLaw =
    (history : List Entry) (entry : Entry)
    → locked (history ++ entry ∷ []) ≡ lock_after (locked history) entry.who

-- lists with one spelling are one list
abbrev pub OneSpellingLaw : Type 0
OneSpellingLaw =
    (first second : List Mutation) → HasSpelling first → HasSpelling second
    → batch_spelling first ≡ batch_spelling second → first ≡ second

-- after mutations that are spelled well the fault is that of what comes next, at the number of
-- bytes before it
abbrev pub FirstFaultLaw : Type 0
FirstFaultLaw =
    (muts : List Mutation) (rest : Bytes) (fault : WireFault) → AllByRecursion IsForward muts
    → 0 < length rest → length (mutations_spelling muts ++ rest) < 2 ^ 32
    → mutation_at (12 + length (mutations_spelling muts)) rest ≡ Err fault
    → decoded (framed (mutations_spelling muts ++ rest)) ≡ Err fault
