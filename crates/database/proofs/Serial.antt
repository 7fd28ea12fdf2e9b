-- What later entries leave of reads and conflicts.
use Rattle.std.proofs.Common.{◌≡◌, ℕ, ◌+◌, ◌<◌, ◌≤◌, nat_lt, Bool, true, false, ◌&&◌, ◌||◌, cond, List, [], ◌∷◌, ◌++◌, take, Option, Some, None, refl, sym, ap, ◌∙◌, arith}
use Rattle.std.specs.List.{AllByRecursion, filter, list_any}
use Rattle.std.proofs.lemmas.Bool.{ltb-false}
use Rattle.fb_bytes.specs.Bytes.{Bytes}
use Rattle.fb_bytes.specs.declared.KeyRange.{KeyRange}
use Rattle.fb_bytes.specs.declared.Pair.{Pair}
use Rattle.fb_bytes.specs.Keys.{holds}
use Rattle.block_frame.specs.Profiles.{limit_of}
use Rattle.mutations.specs.declared.Entry.{Entry}
use Rattle.mutations.specs.declared.Mutation.{Mutation}
use Rattle.mutations.specs.declared.TxOp.{TxOp}
use Rattle.mutations.specs.declared.TxOp.TheVariants.{Get, SnapshotGet, Scan, Write}
use Rattle.mutations.specs.Effects.{effects, touches_key, touches}
use Rattle.mutations.specs.Replay.{is_within, replayed}
use Rattle.mutations.specs.Histories.{batches_of, IsRising, state_at}
use Rattle.mutations.proofs.Basics.{all_weaker, not_both}
use Rattle.mutations.proofs.Replays.{below_within}
use Rattle.mutations.proofs.Clips.{untouched, touch_law}
use Rattle.mutations.proofs.States.{append_law, state_law}
use Rattle.database.specs.declared.found.Found.{Found}
use Rattle.database.specs.declared.found.Found.TheVariants.{One, Many}
use Rattle.database.specs.Dumps.{value_within, pairs_at, keys_of}
use Rattle.database.specs.Reads.{found_by, reads_at, conflicts, is_conflict_read, have_conflict, first_conflict}
use Rattle.database.specs.Laws.{LeavesReadsLaw, SerialLaw}
use Rattle.database.proofs.Keys.{keys_of_history}
use Rattle.database.proofs.PairLists.{pairs_rising}
use Rattle.database.proofs.Dumping.{told, dump_is}

-- ---- pairs of two histories

same_held : (b : Bool) (x y : Option Bytes) → (b ≡ true → x ≡ y) → cond b x None ≡ cond b y None
same_held true x y h = h refl
same_held false x y h = refl

-- the pairs of a range are the same where each key of it has the same value
pairs_same : (block : ℕ) (history other : List Entry) (version at : ℕ) (range : KeyRange) → ((key : Bytes) → holds range key ≡ true → state_at (limit_of block) history version key ≡ state_at (limit_of block) other at key) → pairs_at block history version range ≡ pairs_at block other at range
pairs_same block history other version at range h =
    dump_is block other at range (pairs_at block history version range) (pairs_rising (value_within block history version range) (keys_of history) (keys_of_history history))
    (λ key. told block history version range key ∙ same_held (holds range key) (state_at (limit_of block) history version key) (state_at (limit_of block) other at key) (h key))

-- ---- an entry at the end

found_earlier : (block : ℕ) (history : List Entry) (entry : Entry) (version : ℕ) (op : TxOp) → version < entry.version → found_by block (history ++ entry ∷ []) version op ≡ found_by block history version op
found_earlier block history entry version (Get key) l = ap (λ (o : Option Bytes). One o ∷ []) ((append_law (limit_of block) history entry).earlier version key l)
found_earlier block history entry version (SnapshotGet key) l = ap (λ (o : Option Bytes). One o ∷ []) ((append_law (limit_of block) history entry).earlier version key l)
found_earlier block history entry version (Scan range limit) l = ap (λ (xs : List Pair). Many (take limit xs) ∷ []) (pairs_same block (history ++ entry ∷ []) history version version range (λ key h. (append_law (limit_of block) history entry).earlier version key l))
found_earlier block history entry version (Write mutation) l = refl

reads_earlier : (block : ℕ) (history : List Entry) (entry : Entry) (version : ℕ) (ops : List TxOp) → version < entry.version → reads_at block (history ++ entry ∷ []) version ops ≡ reads_at block history version ops
reads_earlier block history entry version [] l = refl
reads_earlier block history entry version (op ∷ ops) l =
    ap (λ (xs : List Found). xs ++ reads_at block (history ++ entry ∷ []) version ops) (found_earlier block history entry version op l)
    ∙ ap (λ (xs : List Found). found_by block history version op ++ xs) (reads_earlier block history entry version ops l)

stays_first : (history : List Entry) (entry : Entry) (read version : ℕ) (ops : List TxOp) → first_conflict ops read history ≡ Some version → first_conflict ops read (history ++ entry ∷ []) ≡ Some version
stays_first [] entry read version ops h = cc
stays_first (x ∷ xs) entry read version ops h = go (nat_lt read x.version && have_conflict ops x.muts) h (stays_first xs entry read version ops)
  where
    go : (b : Bool) → cond b (Some x.version) (first_conflict ops read xs) ≡ Some version → (first_conflict ops read xs ≡ Some version → first_conflict ops read (xs ++ entry ∷ []) ≡ Some version) → cond b (Some x.version) (first_conflict ops read (xs ++ entry ∷ [])) ≡ Some version
    go true f ih = f
    go false f ih = ih f

pub leaves_reads_law : LeavesReadsLaw
leaves_reads_law block history entry = record {
  reads = λ version ops l. reads_earlier block history entry version ops l;
  conflict = λ read version ops h. stays_first history entry read version ops h;
}

-- ---- without a conflict

-- no mutation of an entry past the version conflicts with the operation
abbrev pub IsQuiet : ℕ → List Entry → TxOp → Type 0
IsQuiet read history op = AllByRecursion (λ (entry : Entry). nat_lt read entry.version ≡ true → AllByRecursion (λ (m : Mutation). conflicts m op ≡ false) entry.muts) history

abbrev pub AreQuiet : ℕ → List Entry → List TxOp → Type 0
AreQuiet read history ops = AllByRecursion (λ (entry : Entry). nat_lt read entry.version ≡ true → AllByRecursion (λ (m : Mutation). list_any (conflicts m) ops ≡ false) entry.muts) history

or_none : (a b : Bool) → (a || b) ≡ false → (a ≡ false) × (b ≡ false)
or_none true b h = not_both refl h
or_none false b h = (refl, h)

none_any : (ops : List TxOp) (muts : List Mutation) → have_conflict ops muts ≡ false → AllByRecursion (λ (m : Mutation). list_any (conflicts m) ops ≡ false) muts
none_any ops [] h = tt
none_any ops (m ∷ ms) h = let r = or_none (list_any (conflicts m) ops) (have_conflict ops ms) h in (r.0, none_any ops ms r.1)

none_since : (ops : List TxOp) (read : ℕ) (history : List Entry) → first_conflict ops read history ≡ None → AreQuiet read history ops
none_since ops read [] h = tt
none_since ops read (x ∷ xs) h = go (nat_lt read x.version) refl (have_conflict ops x.muts) refl h (none_since ops read xs)
  where
    go : (b : Bool) → nat_lt read x.version ≡ b → (c : Bool) → have_conflict ops x.muts ≡ c → cond (b && c) (Some x.version) (first_conflict ops read xs) ≡ None → (first_conflict ops read xs ≡ None → AreQuiet read xs ops) → AreQuiet read (x ∷ xs) ops
    go true b true c f ih = cc
    go true b false c f ih = ((λ t. none_any ops x.muts c), ih f)
    go false b c d f ih = ((λ t. not_both t b), ih f)

quiet_each : (read : ℕ) (history : List Entry) (ops : List TxOp) → AreQuiet read history ops → AllByRecursion (IsQuiet read history) ops
quiet_each read history [] h = tt
quiet_each read history (op ∷ ops) h = (
  all_weaker (λ (entry : Entry). nat_lt read entry.version ≡ true → AllByRecursion (λ (m : Mutation). list_any (conflicts m) (op ∷ ops) ≡ false) entry.muts) (λ (entry : Entry). nat_lt read entry.version ≡ true → AllByRecursion (λ (m : Mutation). conflicts m op ≡ false) entry.muts)
      (λ entry q t. all_weaker (λ (m : Mutation). list_any (conflicts m) (op ∷ ops) ≡ false) (λ (m : Mutation). conflicts m op ≡ false) (λ m e. (or_none (conflicts m op) (list_any (conflicts m) ops) e).0) entry.muts (q t)) history h,
  quiet_each read history ops
      (all_weaker (λ (entry : Entry). nat_lt read entry.version ≡ true → AllByRecursion (λ (m : Mutation). list_any (conflicts m) (op ∷ ops) ≡ false) entry.muts) (λ (entry : Entry). nat_lt read entry.version ≡ true → AllByRecursion (λ (m : Mutation). list_any (conflicts m) ops ≡ false) entry.muts)
      (λ entry q t. all_weaker (λ (m : Mutation). list_any (conflicts m) (op ∷ ops) ≡ false) (λ (m : Mutation). list_any (conflicts m) ops ≡ false) (λ m e. (or_none (conflicts m op) (list_any (conflicts m) ops) e).1) entry.muts (q t)) history h),
)

-- what isn't touched since the version is as it was
effects_none : (limit : ℕ) (muts : List Mutation) (key : Bytes) (old : Option Bytes) → AllByRecursion (λ (m : Mutation). touches_key m key ≡ false) muts → effects limit muts key old ≡ old
effects_none limit [] key old h = refl
effects_none limit (m ∷ ms) key old h = ap (effects limit ms key) (untouched limit m key old h.0) ∙ effects_none limit ms key old h.1

abbrev pub IsLeft : ℕ → Bytes → List Entry → Type 0
IsLeft read key history = AllByRecursion (λ (entry : Entry). nat_lt read entry.version ≡ true → AllByRecursion (λ (m : Mutation). touches_key m key ≡ false) entry.muts) history

replayed_none : (limit read high : ℕ) (history : List Entry) (key : Bytes) (old : Option Bytes) → IsLeft read key history → replayed limit (batches_of history) (read + 1) high key old ≡ old
replayed_none limit read high [] key old h = refl
replayed_none limit read high (x ∷ xs) key old h =
    ap (λ (o : Option Bytes). replayed limit (batches_of xs) (read + 1) high key o) (one (nat_lt read x.version) refl)
    ∙ replayed_none limit read high xs key old h.1
  where
    same : (b : Bool) (o : Option Bytes) → o ≡ old → cond b o old ≡ old
    same true o e = e
    same false o e = refl

    one : (b : Bool) → nat_lt read x.version ≡ b → cond (is_within (read + 1) high x.version) (effects limit x.muts key old) old ≡ old
    one true e = same (is_within (read + 1) high x.version) (effects limit x.muts key old) (effects_none limit x.muts key old (h.0 e))
    one false e = ap (λ (b : Bool). cond b (effects limit x.muts key old) old) (below_within (read + 1) high x.version (go e))
      where
        go : nat_lt read x.version ≡ false → x.version < read + 1
        go f = let l = ltb-false read x.version f in omega arith

state_left : (block : ℕ) (history : List Entry) (read version : ℕ) (key : Bytes) → IsRising history → read ≤ version → IsLeft read key history → state_at (limit_of block) history version key ≡ state_at (limit_of block) history read key
state_left block history read version key r l h = sym (state_law (limit_of block) history read version key r l) ∙ replayed_none (limit_of block) read (version + 1) history key (state_at (limit_of block) history read key) h

-- a key of a range that isn't touched isn't touched
untouched_in : (m : Mutation) (range : KeyRange) (key : Bytes) → touches m range ≡ false → holds range key ≡ true → touches_key m key ≡ false
untouched_in m range key n h = go (touches_key m key) refl
  where
    go : (b : Bool) → touches_key m key ≡ b → touches_key m key ≡ false
    go false e = e
    go true e = not_both ((touch_law m range).1 (key, h, e)) n

scan_left : (read : ℕ) (history : List Entry) (range : KeyRange) (limit : ℕ) (key : Bytes) → IsQuiet read history (Scan range limit) → holds range key ≡ true → IsLeft read key history
scan_left read history range limit key q h =
    all_weaker (λ (entry : Entry). nat_lt read entry.version ≡ true → AllByRecursion (λ (m : Mutation). touches m range ≡ false) entry.muts) (λ (entry : Entry). nat_lt read entry.version ≡ true → AllByRecursion (λ (m : Mutation). touches_key m key ≡ false) entry.muts)
    (λ entry n t. all_weaker (λ (m : Mutation). touches m range ≡ false) (λ (m : Mutation). touches_key m key ≡ false) (λ m e. untouched_in m range key e h) entry.muts (n t)) history q

-- what a read that can conflict finds
found_left : (block : ℕ) (history : List Entry) (read version : ℕ) (op : TxOp) → IsRising history → read ≤ version → is_conflict_read op ≡ true → IsQuiet read history op → found_by block history version op ≡ found_by block history read op
found_left block history read version (Get key) r l c q = ap (λ (o : Option Bytes). One o ∷ []) (state_left block history read version key r l q)
found_left block history read version (SnapshotGet key) r l c q = not_both refl (sym c)
found_left block history read version (Scan range limit) r l c q = ap (λ (xs : List Pair). Many (take limit xs) ∷ []) (pairs_same block history history version read range (λ key h. state_left block history read version key r l (scan_left read history range limit key q h)))
found_left block history read version (Write mutation) r l c q = refl

reads_left : (block : ℕ) (history : List Entry) (read version : ℕ) (ops : List TxOp) → IsRising history → read ≤ version → AllByRecursion (IsQuiet read history) ops → reads_at block history version (filter is_conflict_read ops) ≡ reads_at block history read (filter is_conflict_read ops)
reads_left block history read version [] r l q = refl
reads_left block history read version (op ∷ ops) r l q = go (is_conflict_read op) refl (reads_left block history read version ops r l q.1)
  where
    go : (b : Bool) → is_conflict_read op ≡ b → reads_at block history version (filter is_conflict_read ops) ≡ reads_at block history read (filter is_conflict_read ops) → reads_at block history version (cond b (op ∷ filter is_conflict_read ops) (filter is_conflict_read ops)) ≡ reads_at block history read (cond b (op ∷ filter is_conflict_read ops) (filter is_conflict_read ops))
    go true e ih =
        ap (λ (xs : List Found). xs ++ reads_at block history version (filter is_conflict_read ops)) (found_left block history read version op r l e q.0)
        ∙ ap (λ (xs : List Found). found_by block history read op ++ xs) ih
    go false e ih = ih

pub serial_law : SerialLaw
serial_law block history read version ops r l h = reads_left block history read version ops r l (quiet_each read history ops (none_since ops read history h))
