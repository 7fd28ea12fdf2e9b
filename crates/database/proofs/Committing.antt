-- What a commit that takes a version keeps to.
use Rattle.std.proofs.Common.{◌≡◌, ℕ, ◌+◌, ◌^◌, ◌<◌, ◌≤◌, Bool, true, false, nat_lt, nat_le, cond, List, [], ◌∷◌, ◌++◌, length, map, Option, Some, None, Result, Ok, Err, refl, sym, ap, ◌∙◌, drop, get_or, subst, arith}
use Rattle.std.specs.Prelude.{option_map}
use Rattle.std.specs.List.{AllByRecursion}
use Rattle.std.proofs.lemmas.Bool.{ltb-false}
use Rattle.std.proofs.lemmas.Bool.Decides.{nat_tests}
use Rattle.std.proofs.lemmas.List.{drop_more}
use Rattle.fb_bytes.specs.Bytes.{Bytes}
use Rattle.fb_bytes.specs.Options.{first_place_from, first_place}
use Rattle.block_frame.specs.Profiles.{key_limit_of, limit_of}
use Rattle.mutations.specs.declared.Entry.{Entry}
use Rattle.mutations.specs.declared.Batch.{Batch}
use Rattle.mutations.specs.declared.Mutation.{Mutation}
use Rattle.mutations.specs.declared.Mutation.TheVariants.{Set, ClearRange, Atomic}
use Rattle.mutations.specs.declared.TxOp.{TxOp}
use Rattle.mutations.specs.declared.TxOp.TheVariants.{Get, SnapshotGet, Scan, Write}
use Rattle.mutations.specs.declared.TxFault.TheVariants.{Outside, KeyTooLarge, ValueTooLarge}
use Rattle.mutations.specs.Clipping.{all_clipped}
use Rattle.mutations.specs.Spelling.{mutations_spelling}
use Rattle.mutations.specs.Histories.{batch_of, batches_of, locked}
use Rattle.mutations.specs.Transactions.{tx_fault, writes_of, ◌or_else◌, is_outside, is_long, is_key_long, is_value_long}
use Rattle.versioned_kv.specs.Applied.{IsPast, with_entry}
use Rattle.database.specs.declared.commit_fault.CommitFault.{CommitFault}
use Rattle.database.specs.declared.commit_fault.CommitFault.TheVariants.{Locked, TooOld, NotCommitted, VersionsSpent}
use Rattle.database.specs.Faults.{of_transaction}
use Rattle.database.specs.Reads.{first_conflict}
use Rattle.database.specs.Logs.{JobLog, AreLoggable}
use Rattle.database.specs.declared.system_fault.SystemFault.{SystemFault}
use Rattle.database.specs.Commits.{most_version, oldest_at, is_large, large_of, large_in, unless_large, version_taken, unless_fault, unless_large_entry, locked_fault, age_fault, conflict_fault, fault_before}
use Rattle.database.specs.Dumps.{IsWithin, AreMutationsWithin}
use Rattle.database.specs.Laws.{CommitLaw}

-- ---- no test of the operations finds a fault

pub or_none : {X : Type 0} (a b : Option X) → (a or_else b) ≡ None → (a ≡ None) × (b ≡ None)
or_none None b h = (refl, h)
or_none (Some x) b h = cc

pub map_none : {X Y : Type 0} (f : X → Y) (o : Option X) → option_map f o ≡ None → o ≡ None
map_none f None h = refl
map_none f (Some x) h = cc

no_place : {X : Type 0} (n : ℕ) (passes : X → Bool) (xs : List X) → first_place_from n passes xs ≡ None → AllByRecursion (λ x. passes x ≡ false) xs
no_place n passes [] h = tt
no_place n passes (x ∷ xs) h = go (passes x) refl h (no_place (n + 1) passes xs)
  where
    go : (b : Bool) → passes x ≡ b → cond b (Some n) (first_place_from (n + 1) passes xs) ≡ None → (first_place_from (n + 1) passes xs ≡ None → AllByRecursion (λ y. passes y ≡ false) xs) → AllByRecursion (λ y. passes y ≡ false) (x ∷ xs)
    go true e f ih = cc
    go false e f ih = (e, ih f)

none_long : (keys values : ℕ) (ops : List TxOp) → tx_fault keys values ops ≡ None → AllByRecursion (λ op. is_key_long keys op ≡ false) ops × AllByRecursion (λ op. is_value_long values op ≡ false) ops
none_long keys values ops h =
    let three = or_none (option_map Outside (first_place is_outside ops) or_else option_map KeyTooLarge (first_place (is_key_long keys) ops) or_else option_map ValueTooLarge (first_place (is_value_long values) ops)) _ h in
    let two = or_none (option_map Outside (first_place is_outside ops) or_else option_map KeyTooLarge (first_place (is_key_long keys) ops)) _ three.0 in
    let one = or_none (option_map Outside (first_place is_outside ops)) _ two.0 in
    (no_place 0 (is_key_long keys) ops (map_none KeyTooLarge _ one.1), no_place 0 (is_value_long values) ops (map_none ValueTooLarge _ two.1))

short : (limit : ℕ) (bytes : Bytes) → is_long limit bytes ≡ false → length bytes ≤ limit
short limit bytes h = ltb-false limit (length bytes) h

written_within : (block : ℕ) (m : Mutation) → is_key_long (key_limit_of block) (Write m) ≡ false → is_value_long (limit_of block) (Write m) ≡ false → IsWithin block m
written_within block (Set key value) k v = (short _ key k, short _ value v)
written_within block (ClearRange begin end) k v = tt
written_within block (Atomic op key param) k v = (short _ key k, short _ param v)

writes_within : (block : ℕ) (ops : List TxOp) → AllByRecursion (λ op. is_key_long (key_limit_of block) op ≡ false) ops → AllByRecursion (λ op. is_value_long (limit_of block) op ≡ false) ops → AreMutationsWithin block (writes_of ops)
writes_within block [] k v = tt
writes_within block (Write m ∷ ops) k v = (written_within block m k.0 v.0, writes_within block ops k.1 v.1)
writes_within block (Get key ∷ ops) k v = writes_within block ops k.1 v.1
writes_within block (SnapshotGet key ∷ ops) k v = writes_within block ops k.1 v.1
writes_within block (Scan range limit ∷ ops) k v = writes_within block ops k.1 v.1

-- ---- the version

no_fault : (found : Option CommitFault) (answer : Result (Option ℕ) CommitFault) (version : ℕ) → unless_fault found answer ≡ Ok (Some version) → (found ≡ None) × (answer ≡ Ok (Some version))
no_fault None answer version h = (refl, h)
no_fault (Some fault) answer version h = cc

not_large : (found : Option ℕ) (next version : ℕ) → unless_large found next ≡ Ok (Some version) → (found ≡ None) × (version ≡ next)
not_large None next version h = (refl, cc)
not_large (Some bytes) next version h = cc

is_next : (time pace version : ℕ) (logs : List JobLog) (muts : List Mutation) → version_taken time pace logs muts ≡ Ok (Some version) → (version ≡ time + pace) × (version ≤ most_version) × (large_in logs muts ≡ None)
is_next time pace version logs [] h = cc
is_next time pace version logs (m ∷ ms) h = go (nat_lt most_version (time + pace)) refl h
  where
    go : (b : Bool) → nat_lt most_version (time + pace) ≡ b → cond b (Err (VersionsSpent time)) (unless_large (large_in logs (m ∷ ms)) (time + pace)) ≡ Ok (Some version) → (version ≡ time + pace) × (version ≤ most_version) × (large_in logs (m ∷ ms) ≡ None)
    go true e f = cc
    go false e f = let r = not_large (large_in logs (m ∷ ms)) (time + pace) version f in let l = ltb-false most_version (time + pace) e in let v : version ≡ time + pace = r.1 in (v, subst (λ n. n ≤ most_version) (sym v) l, r.0)

-- ---- the logs

fits : (log : JobLog) (muts : List Mutation) → large_of log muts ≡ None → length (mutations_spelling (all_clipped log.ranges muts)) < 2 ^ 32
fits log muts h = go (is_large (all_clipped log.ranges muts)) refl h
  where
    go : (b : Bool) → is_large (all_clipped log.ranges muts) ≡ b → cond b (Some (length (mutations_spelling (all_clipped log.ranges muts)))) None ≡ None → length (mutations_spelling (all_clipped log.ranges muts)) < 2 ^ 32
    go true e f = cc
    go false e f = below (2 ^ 32) (length (mutations_spelling (all_clipped log.ranges muts))) e
      where
        below : (a b : ℕ) → nat_le a b ≡ false → b < a
        below a b e = grind (arith, nat_tests)

all_fit : (logs : List JobLog) (muts : List Mutation) → large_in logs muts ≡ None → AllByRecursion (λ (log : JobLog). length (mutations_spelling (all_clipped log.ranges muts)) < 2 ^ 32) logs
all_fit [] muts h = tt
all_fit (log ∷ logs) muts h = let r = or_none (large_of log muts) (large_in logs muts) h in (fits log muts r.0, all_fit logs muts r.1)

-- ---- nothing stood against it

no_age : (time read : ℕ) → age_fault time read ≡ None → oldest_at time ≤ read
no_age time read h = go (nat_lt read (oldest_at time)) refl h
  where
    go : (b : Bool) → nat_lt read (oldest_at time) ≡ b → cond b (Some (TooOld read (oldest_at time))) None ≡ None → oldest_at time ≤ read
    go true e f = cc
    go false e f = ltb-false read (oldest_at time) e

no_conflict : (time pace version : ℕ) (logs : List JobLog) (muts : List Mutation) (ops : List TxOp) (read : ℕ) (history : List Entry) → version_taken time pace logs muts ≡ Ok (Some version) → conflict_fault muts ops read history ≡ None → first_conflict ops read history ≡ None
no_conflict time pace version logs [] ops read history t h = cc
no_conflict time pace version logs (m ∷ ms) ops read history t h = map_none NotCommitted (first_conflict ops read history) h

pub commit_law : CommitLaw
commit_law scene read ops version h =
    let writes = writes_of ops in
    let own = option_map of_transaction (tx_fault (key_limit_of scene.block) (limit_of scene.block) ops) in
    let passed = no_fault (fault_before scene read ops) (version_taken scene.time scene.pace scene.logs writes) version h in
    let three = or_none (own or_else locked_fault scene.history or_else age_fault scene.time read) (conflict_fault writes ops read scene.history) passed.0 in
    let two = or_none (own or_else locked_fault scene.history) (age_fault scene.time read) three.0 in
    let one = or_none own (locked_fault scene.history) two.0 in
    let long = none_long (key_limit_of scene.block) (limit_of scene.block) ops (map_none of_transaction _ one.0) in
    let taken = is_next scene.time scene.pace version scene.logs writes passed.1 in
    record {
      next = taken.0;
      most = taken.1;
      within = writes_within scene.block ops long.0 long.1;
      logged = all_fit scene.logs writes taken.2;
      unlocked = map_none Locked (locked scene.history) one.1;
      young = no_age scene.time read two.1;
      alone = no_conflict scene.time scene.pace version scene.logs writes ops read scene.history passed.1 three.1;
    }

-- ---- the logs one after the other

front_is : (logs : List JobLog) (muts : List Mutation) (i : ℕ) (log : JobLog) → i < length logs → log ≡ get_or logs i log → large_in (drop i logs) muts ≡ (large_of log muts or_else large_in (drop (i + 1) logs) muts)
front_is logs muts i log l is = ap (λ (xs : List JobLog). large_in xs muts) (drop_more logs i log l) ∙ ap (λ (x : JobLog). large_of x muts or_else large_in (drop (i + 1) logs) muts) (sym is)

pub large_here : (logs : List JobLog) (muts : List Mutation) (i : ℕ) (log : JobLog) (bytes : ℕ) → i < length logs → log ≡ get_or logs i log → Some bytes ≡ large_of log muts → large_in (drop i logs) muts ≡ large_in logs muts → Some bytes ≡ large_in logs muts
large_here logs muts i log bytes l is e h = ap (λ (o : Option ℕ). o or_else large_in (drop (i + 1) logs) muts) e ∙ sym (front_is logs muts i log l is) ∙ h

pub large_later : (logs : List JobLog) (muts : List Mutation) (i : ℕ) (log : JobLog) → i < length logs → log ≡ get_or logs i log → None ≡ large_of log muts → large_in (drop i logs) muts ≡ large_in logs muts → large_in (drop (i + 1) logs) muts ≡ large_in logs muts
large_later logs muts i log l is e h = ap (λ (o : Option ℕ). o or_else large_in (drop (i + 1) logs) muts) e ∙ sym (front_is logs muts i log l is) ∙ h

-- ---- the entry of a version

pub past_all : (version : ℕ) (history : List Entry) → AllByRecursion (λ (earlier : Entry). earlier.version < version) history → IsPast version (map (λ (entry : Batch). entry.version) (batches_of history))
past_all version [] h = tt
past_all version (x ∷ xs) h = (h.0, past_all version xs h.1)

later_all : (time version : ℕ) (history : List Entry) → time < version → AllByRecursion (λ (entry : Entry). entry.version ≤ time) history → AllByRecursion (λ (entry : Entry). entry.version < version) history
later_all time version [] l h = tt
later_all time version (x ∷ xs) l h = let a = h.0 in (omega arith, later_all time version xs l h.1)

-- each entry is before the next version
pub entries_before : (time pace version : ℕ) (history : List Entry) → 1 ≤ pace → version ≡ time + pace → AllByRecursion (λ (entry : Entry). entry.version ≤ time) history → AllByRecursion (λ (entry : Entry). entry.version < version) history
entries_before time pace version history p n h = later_all time version history (omega arith) h

pub one_more : (history : List Entry) (entry : Entry) → batches_of (history ++ entry ∷ []) ≡ with_entry (batches_of history) entry.version entry.muts
one_more [] entry = refl
one_more (x ∷ xs) entry = ap (λ (bs : List Batch). batch_of x ∷ bs) (one_more xs entry)

-- ---- what logs can take

pub loggable : (muts writes : List Mutation) (logs : List JobLog) → muts ≡ writes → AreLoggable writes logs → AreLoggable muts logs
loggable muts writes logs m h = subst (λ (ms : List Mutation). AreLoggable ms logs) (sym m) h

not_large_entry : (found : Option ℕ) (answer : Result ℕ SystemFault) (version : ℕ) → unless_large_entry found answer ≡ Ok version → found ≡ None
not_large_entry None answer version h = refl
not_large_entry (Some bytes) (Ok next) version h = cc
not_large_entry (Some bytes) (Err fault) version h = cc

pub entry_loggable : (muts read : List Mutation) (logs seen : List JobLog) (answer : Result ℕ SystemFault) (version : ℕ) → read ≡ muts → seen ≡ logs → unless_large_entry (large_in seen read) answer ≡ Ok version → AreLoggable muts logs
entry_loggable muts read logs seen answer version m l h =
    loggable muts read logs (sym m) (subst (λ (xs : List JobLog). AreLoggable read xs) l (all_fit seen read (not_large_entry (large_in seen read) answer version h)))
