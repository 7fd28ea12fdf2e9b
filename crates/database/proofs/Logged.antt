-- What the logs of jobs take of an entry.
use Rattle.std.proofs.Common.{◌≡◌, ℕ, ◌+◌, ◌*◌, ◌^◌, ◌<◌, ◌≤◌, eqb, nat_lt, Bool, true, false, not, ◌&&◌, cond, List, [], ◌∷◌, ◌++◌, length, map, drop, get_or, subst, refl, sym, ap, ◌∙◌, arith, length-append}
use Rattle.std.specs.List.{AllByRecursion, filter}
use Rattle.std.proofs.lemmas.Bool.{eq-eqb, ne_eqb, cond-false, and_parts, eqb-true, ltb-true, lt-ltb}
use Rattle.std.proofs.lemmas.List.{append-nil, drop_more, drop_all}
use Rattle.fb_bytes.specs.Bytes.{Bytes, is_below}
use Rattle.fb_bytes.specs.Keys.{in_ranges}
use Rattle.fb_bytes.specs.declared.KeyRange.{KeyRange}
use Rattle.mutations.specs.declared.Mutation.TheVariants.{Set, ClearRange, Atomic}
use Rattle.mutations.specs.Effects.{range_of, common}
use Rattle.mutations.specs.Spelling.{u32_bytes, u64_bytes, protocol, mutations_spelling, batch_spelling, IsForward, HasSpelling}
use Rattle.mutations.proofs.Lengths.{length-u32_bytes, length-u64_bytes}
use Rattle.mutations.specs.declared.Mutation.{Mutation}
use Rattle.mutations.specs.declared.Batch.{Batch}
use Rattle.mutations.specs.declared.Entry.{Entry}
use Rattle.mutations.specs.Clipping.{cut_to, clear_cut, clipped, all_clipped}
use Rattle.mutations.specs.Replay.{is_within}
use Rattle.mutations.specs.Histories.{logged, with_batch}
use Rattle.mutations.proofs.Basics.{by_test, all_weaker, not_false}
use Rattle.mutations.proofs.Logs.{logged_append}
use Rattle.log_keys.specs.Laws.{NewestLaw, UndoLaw, UnusedLaw}
use Rattle.log_keys.specs.Logs.{Standing, AreOrdered, is_before, is_between, with_one, without, stands, batch_of, batches_between}
use Rattle.database.specs.Logs.{JobLog, AreLoggable}
use Rattle.database.specs.inner.Logs.{AreInOrder}
use Rattle.database.specs.inner.Kept.{Stands, AreBelow, AreNamed, put_one, put_all}

-- what stands of a job is before the version
abbrev pub IsPastLog : ℕ → List Standing → JobLog → Type 0
IsPastLog version keys log = AllByRecursion (λ (other : Standing). other.job ≡ log.job → other.version < version) keys

-- ---- one more

all_with : (P : Standing → Type 0) (one : Standing) (keys : List Standing) → P one → AllByRecursion P keys → AllByRecursion P (with_one one keys)
all_with P one [] p h = (p, tt)
all_with P one (o ∷ os) p h = go (is_before one.job one.version o) (all_with P one os p h.1)
  where
    go : (b : Bool) → AllByRecursion P (with_one one os) → AllByRecursion P (cond b (o ∷ with_one one os) (one ∷ o ∷ os))
    go true ih = (h.0, ih)
    go false ih = (p, h)

all_less : (P : Standing → Type 0) (one : Standing) (keys : List Standing) → AllByRecursion P (with_one one keys) → AllByRecursion P keys
all_less P one [] h = tt
all_less P one (o ∷ os) h = go (is_before one.job one.version o) h (all_less P one os)
  where
    go : (b : Bool) → AllByRecursion P (cond b (o ∷ with_one one os) (one ∷ o ∷ os)) → (AllByRecursion P (with_one one os) → AllByRecursion P os) → AllByRecursion P (o ∷ os)
    go true g ih = (g.0, ih g.1)
    go false g ih = g.1

ordered_less : (one : Standing) (keys : List Standing) → AreOrdered (with_one one keys) → AreOrdered keys
ordered_less one [] h = tt
ordered_less one (o ∷ os) h = go (is_before one.job one.version o) h (ordered_less one os)
  where
    go : (b : Bool) → AreOrdered (cond b (o ∷ with_one one os) (one ∷ o ∷ os)) → (AreOrdered (with_one one os) → AreOrdered os) → AreOrdered (o ∷ os)
    go true g ih = (all_less (λ (later : Standing). is_before later.job later.version o ≡ true) one os g.0, ih g.1)
    go false g ih = g.1

left_out : (test : Standing → Bool) (one : Standing) (keys : List Standing) → test one ≡ false → filter test (with_one one keys) ≡ filter test keys
left_out test one [] e = cond-false (test one) (one ∷ []) [] e
left_out test one (o ∷ os) e =
    by_test (is_before one.job one.version o) (λ (xs : List Standing). filter test xs ≡ filter test (o ∷ os)) (o ∷ with_one one os) (one ∷ o ∷ os)
    (λ f. ap (λ (xs : List Standing). cond (test o) (o ∷ xs) xs) (left_out test one os e))
    (λ f. cond-false (test one) (one ∷ filter test (o ∷ os)) (filter test (o ∷ os)) e)

-- ---- what one log takes

all_one : (P : Standing → Type 0) (job version : ℕ) (muts : List Mutation) (keys : List Standing) → ((ms : List Mutation) → P (record { job = job; version = version; muts = ms })) → AllByRecursion P keys → AllByRecursion P (put_one job version muts keys)
all_one P job version [] keys p h = h
all_one P job version (m ∷ ms) keys p h = all_with P (record { job = job; version = version; muts = m ∷ ms }) keys (p (m ∷ ms)) h

ordered_one : (job version : ℕ) (muts : List Mutation) (keys : List Standing) → AreOrdered (put_one job version muts keys) → AreOrdered keys
ordered_one job version [] keys h = h
ordered_one job version (m ∷ ms) keys h = ordered_less (record { job = job; version = version; muts = m ∷ ms }) keys h

undo_one : UndoLaw → (job version : ℕ) (muts : List Mutation) (keys : List Standing) → without version (put_one job version muts keys) ≡ without version keys
undo_one law job version [] keys = refl
undo_one law job version (m ∷ ms) keys = law (record { job = job; version = version; muts = m ∷ ms }) keys

-- what another job has is as it was
other_one : (job other version : ℕ) (muts : List Mutation) (keys : List Standing) (begin end : ℕ) → eqb job other ≡ false → batches_between other begin end (put_one job version muts keys) ≡ batches_between other begin end keys
other_one job other version [] keys begin end e = refl
other_one job other version (m ∷ ms) keys begin end e =
    ap (map batch_of) (left_out (λ (one : Standing). is_between other begin end one.job one.version) (record { job = job; version = version; muts = m ∷ ms }) keys (ap (λ (b : Bool). b && is_within begin end version) e))

either : {X : Type 0} (b : Bool) (x : X) → cond b x x ≡ x
either true x = refl
either false x = refl

-- and what the job has is more by what it takes
own_one : NewestLaw → (job version : ℕ) (muts : List Mutation) (keys : List Standing) (begin end : ℕ) → AreOrdered keys → AllByRecursion (λ (other : Standing). other.job ≡ job → other.version < version) keys
    → batches_between job begin end (put_one job version muts keys) ≡ batches_between job begin end keys ++ cond (is_within begin end version) (with_batch version muts []) []
own_one law job version [] keys begin end o n = sym (ap (λ (xs : List Batch). batches_between job begin end keys ++ xs) (either (is_within begin end version) []) ∙ append-nil (batches_between job begin end keys))
own_one law job version (m ∷ ms) keys begin end o n =
    law (record { job = job; version = version; muts = m ∷ ms }) keys job begin end o n
    ∙ ap (λ (b : Bool). batches_between job begin end keys ++ cond (b && is_within begin end version) (record { version = version; muts = m ∷ ms } ∷ []) []) (eq-eqb job job refl)

-- ---- what all logs take

pub all_put : (P : Standing → Type 0) (version : ℕ) (muts : List Mutation) (logs : List JobLog) (keys : List Standing) → ((job : ℕ) (ms : List Mutation) → P (record { job = job; version = version; muts = ms })) → AllByRecursion P keys → AllByRecursion P (put_all version muts logs keys)
all_put P version muts [] keys p h = h
all_put P version muts (log ∷ logs) keys p h = all_put P version muts logs (put_one log.job version (all_clipped log.ranges muts) keys) p (all_one P log.job version (all_clipped log.ranges muts) keys (p log.job) h)

ordered_all : (version : ℕ) (muts : List Mutation) (logs : List JobLog) (keys : List Standing) → AreOrdered (put_all version muts logs keys) → AreOrdered keys
ordered_all version muts [] keys h = h
ordered_all version muts (log ∷ logs) keys h = ordered_one log.job version (all_clipped log.ranges muts) keys (ordered_all version muts logs (put_one log.job version (all_clipped log.ranges muts) keys) h)

lower : (a b : ℕ) → a < b → eqb a b ≡ false
lower a b h = ne_eqb a b (λ e. omega arith)

others_leave : (version : ℕ) (muts : List Mutation) (logs : List JobLog) (keys : List Standing) (job begin end : ℕ) → AllByRecursion (λ (later : JobLog). job < later.job) logs → batches_between job begin end (put_all version muts logs keys) ≡ batches_between job begin end keys
others_leave version muts [] keys job begin end h = refl
others_leave version muts (log ∷ logs) keys job begin end h =
    others_leave version muts logs (put_one log.job version (all_clipped log.ranges muts) keys) job begin end h.1
    ∙ other_one log.job job version (all_clipped log.ranges muts) keys begin end (higher log.job job h.0)
  where
    higher : (a b : ℕ) → b < a → eqb a b ≡ false
    higher a b l = ne_eqb a b (λ e. omega arith)

both : {X : Type 0} (P Q R : X → Type 0) → ((x : X) → P x → Q x → R x) → (xs : List X) → AllByRecursion P xs → AllByRecursion Q xs → AllByRecursion R xs
both P Q R f [] p q = tt
both P Q R f (x ∷ xs) p q = (f x p.0 q.0, both P Q R f xs p.1 q.1)

-- of a later job nothing new stands
pub past_rest : (job version : ℕ) (muts : List Mutation) (keys : List Standing) (logs : List JobLog) → AllByRecursion (λ (later : JobLog). job < later.job) logs → AllByRecursion (IsPastLog version keys) logs → AllByRecursion (IsPastLog version (put_one job version muts keys)) logs
past_rest job version muts keys logs l h =
    both (λ (later : JobLog). job < later.job) (IsPastLog version keys) (IsPastLog version (put_one job version muts keys))
    (λ (later : JobLog) less past. all_one (λ (other : Standing). other.job ≡ later.job → other.version < version) job version muts keys (λ ms same. absurd (let s : job ≡ later.job = same in omega arith)) past) logs l h

-- what a log takes of an entry is behind what it had
abbrev pub Adds : ℕ → List Mutation → List Standing → List Standing → JobLog → Type 0
Adds version muts old new log =
    (begin end : ℕ) → batches_between log.job begin end new ≡ batches_between log.job begin end old ++ cond (is_within begin end version) (with_batch version (all_clipped log.ranges muts) []) []

put_adds : NewestLaw → (version : ℕ) (muts : List Mutation) (logs : List JobLog) (keys : List Standing) → AreInOrder logs → AllByRecursion (IsPastLog version keys) logs → AreOrdered (put_all version muts logs keys)
    → AllByRecursion (Adds version muts keys (put_all version muts logs keys)) logs
put_adds law version muts [] keys o n h = tt
put_adds law version muts (log ∷ logs) keys o n h =
    let clip = all_clipped log.ranges muts in
    let next = put_one log.job version clip keys in
    let sorted = ordered_one log.job version clip keys (ordered_all version muts logs next h) in (
      (λ begin end. others_leave version muts logs next log.job begin end o.0 ∙ own_one law log.job version clip keys begin end sorted n.0),
      both (λ (later : JobLog). log.job < later.job) (Adds version muts next (put_all version muts logs next)) (Adds version muts keys (put_all version muts logs next))
          (λ (later : JobLog) less adds begin end. adds begin end ∙ ap (λ (xs : List Batch). xs ++ cond (is_within begin end version) (with_batch version (all_clipped later.ranges muts) []) []) (other_one log.job later.job version clip keys begin end (lower log.job later.job less)))
          logs o.0 (put_adds law version muts logs next o.1 (past_rest log.job version clip keys logs o.0 n.1) h),
    )

-- what is below a version is past no log of it
pub below_past : (version : ℕ) (keys : List Standing) (logs : List JobLog) → AreBelow version keys → AllByRecursion (IsPastLog version keys) logs
below_past version keys [] h = tt
below_past version keys (log ∷ logs) h = (all_weaker (λ (one : Standing). one.version < version) (λ (other : Standing). other.job ≡ log.job → other.version < version) (λ one l same. l) keys h, below_past version keys logs h)

-- what stands is what is logged of one entry more
pub stand_on : NewestLaw → (history : List Entry) (entry : Entry) (logs : List JobLog) (keys : List Standing) → AreInOrder logs → AreBelow entry.version keys → AreOrdered (put_all entry.version entry.muts logs keys)
    → AllByRecursion (Stands history keys) logs → AllByRecursion (Stands (history ++ entry ∷ []) (put_all entry.version entry.muts logs keys)) logs
stand_on law history entry logs keys o b h s =
    let new = put_all entry.version entry.muts logs keys in
    both (Adds entry.version entry.muts keys new) (Stands history keys) (Stands (history ++ entry ∷ []) new)
    (λ (log : JobLog) adds stood begin end e. adds begin end ∙ ap (λ (xs : List Batch). xs ++ logged (entry ∷ []) log.ranges begin end) (stood begin end e) ∙ sym (logged_append history (entry ∷ []) log.ranges begin end))
    logs (put_adds law entry.version entry.muts logs keys o (below_past entry.version keys logs b) h) s

-- ---- a put is undone

apart : (version : ℕ) (keys : List Standing) → AreBelow version keys → AllByRecursion (λ (one : Standing). eqb one.version version ≡ false) keys
apart version keys h = all_weaker (λ (one : Standing). one.version < version) (λ (one : Standing). eqb one.version version ≡ false) (λ one l. lower one.version version l) keys h

-- nothing that is below a version is of it
pub undone_first : UnusedLaw → (version : ℕ) (keys : List Standing) → AreBelow version keys → without version keys ≡ keys
undone_first law version keys h = law version keys (apart version keys h)

pub undone_next : UndoLaw → (job version : ℕ) (muts : List Mutation) (keys old : List Standing) → without version keys ≡ old → without version (put_one job version muts keys) ≡ old
undone_next law job version muts keys old e = undo_one law job version muts keys ∙ e

-- nothing stands under the version and a job that is past
pub stands_not : (job version : ℕ) (keys : List Standing) → AllByRecursion (λ (other : Standing). other.job ≡ job → other.version < version) keys → stands job version keys ≡ false
stands_not job version [] h = refl
stands_not job version (o ∷ os) h = go (eqb o.job job && eqb o.version version) refl (stands_not job version os h.1)
  where
    go : (b : Bool) → (eqb o.job job && eqb o.version version) ≡ b → stands job version os ≡ false → stands job version (o ∷ os) ≡ false
    go true e ih = let p = and_parts (eqb o.job job) (eqb o.version version) e in let less = h.0 (eqb-true o.job job p.0) in let same = eqb-true o.version version p.1 in absurd (omega arith)
    go false e ih = rw e ih

-- ---- what stands is of versions of the history

-- ---- what stands is of versions of the history

pub named_below : (version : ℕ) (history : List Entry) (keys : List Standing) → AreNamed history keys → AllByRecursion (λ (entry : Entry). entry.version < version) history → AreBelow version keys
named_below version history keys n h =
    all_weaker (λ (one : Standing). nat_lt one.version version ≡ true) (λ (one : Standing). one.version < version) (λ one e. ltb-true one.version version e) keys
    (n (λ v. nat_lt v version) (all_weaker (λ (entry : Entry). entry.version < version) (λ (entry : Entry). nat_lt entry.version version ≡ true) (λ entry l. lt-ltb entry.version version l) history h))

-- ---- one log after the other

-- As far as a loop over logs has come: what is left to put leads to what all logs take, nothing of the logs that are left stands under the version, and without the version all is as it was.
pub record IsPutting (version : ℕ) (muts : List Mutation) (logs left : List JobLog) (old keys : List Standing) : Type 0 where
  pub same : put_all version muts left keys ≡ put_all version muts logs old
  pub past : AllByRecursion (IsPastLog version keys) left
  pub order : AreInOrder left
  pub few : AreLoggable muts left
  pub back : without version keys ≡ old

pub putting_first : UnusedLaw → (version : ℕ) (muts : List Mutation) (logs : List JobLog) (keys : List Standing) → AreBelow version keys → AreInOrder logs → AreLoggable muts logs → IsPutting version muts logs logs keys keys
putting_first law version muts logs keys b o f = record {
  same = refl;
  past = below_past version keys logs b;
  order = o;
  few = f;
  back = undone_first law version keys b;
}

-- what is left begins with the log at the place
left_is : (logs : List JobLog) (i : ℕ) (log : JobLog) → i < length logs → log ≡ get_or logs i log → drop i logs ≡ log ∷ drop (i + 1) logs
left_is logs i log l is = drop_more logs i log l ∙ ap (λ (x : JobLog). x ∷ drop (i + 1) logs) (sym is)

pub putting_here : (version : ℕ) (muts : List Mutation) (logs : List JobLog) (old keys : List Standing) (i : ℕ) (log : JobLog) → i < length logs → log ≡ get_or logs i log → IsPutting version muts logs (drop i logs) old keys → IsPutting version muts logs (log ∷ drop (i + 1) logs) old keys
putting_here version muts logs old keys i log l is p = subst (λ (xs : List JobLog). IsPutting version muts logs xs old keys) (left_is logs i log l is) p

pub putting_free : (version : ℕ) (muts : List Mutation) (logs left : List JobLog) (old keys : List Standing) (log : JobLog) → IsPutting version muts logs (log ∷ left) old keys → stands log.job version keys ≡ false
putting_free version muts logs left old keys log p = stands_not log.job version keys p.past.0

pub putting_few : (version : ℕ) (muts : List Mutation) (logs left : List JobLog) (old keys : List Standing) (log : JobLog) → IsPutting version muts logs (log ∷ left) old keys → length (mutations_spelling (all_clipped log.ranges muts)) < 2 ^ 32
putting_few version muts logs left old keys log p = p.few.0

putting_put : UndoLaw → (version : ℕ) (muts : List Mutation) (logs left : List JobLog) (old keys : List Standing) (log : JobLog) → IsPutting version muts logs (log ∷ left) old keys → IsPutting version muts logs left old (put_one log.job version (all_clipped log.ranges muts) keys)
putting_put law version muts logs left old keys log p = record {
  same = p.same;
  past = past_rest log.job version (all_clipped log.ranges muts) keys left p.order.0 p.past.1;
  order = p.order.1;
  few = p.few.1;
  back = undone_next law log.job version (all_clipped log.ranges muts) keys old p.back;
}

pub putting_next : UndoLaw → (version : ℕ) (muts : List Mutation) (logs left : List JobLog) (old keys new : List Standing) (log : JobLog) → new ≡ put_one log.job version (all_clipped log.ranges muts) keys → IsPutting version muts logs (log ∷ left) old keys → IsPutting version muts logs left old new
putting_next law version muts logs left old keys new log n p = subst (λ (xs : List Standing). IsPutting version muts logs left old xs) (sym n) (putting_put law version muts logs left old keys log p)

pub putting_done : (version : ℕ) (muts : List Mutation) (logs : List JobLog) (old keys : List Standing) (i : ℕ) → length logs ≤ i → IsPutting version muts logs (drop i logs) old keys → keys ≡ put_all version muts logs old
putting_done version muts logs old keys i l p = sym (ap (λ (xs : List JobLog). put_all version muts xs keys) (drop_all i logs l)) ∙ p.same

-- ---- what a log takes has a spelling

kept_forward : (b : Bool) (m : Mutation) → IsForward m → AllByRecursion IsForward (cond b (m ∷ []) [])
kept_forward true m f = (f, tt)
kept_forward false m f = tt

cleared_forward : (b : Bool) (begin end : Bytes) → not (is_below begin end) ≡ b → AllByRecursion IsForward (cond b [] (ClearRange begin end ∷ []))
cleared_forward true begin end e = tt
cleared_forward false begin end e = (not_false (is_below begin end) e, tt)

all_append : {X : Type 0} (P : X → Type 0) (xs ys : List X) → AllByRecursion P xs → AllByRecursion P ys → AllByRecursion P (xs ++ ys)
all_append P [] ys h g = g
all_append P (x ∷ xs) ys h g = (h.0, all_append P xs ys h.1 g)

cut_forward : (begin end : Bytes) (ranges : List KeyRange) → AllByRecursion IsForward (clear_cut begin end ranges)
cut_forward begin end [] = tt
cut_forward begin end (range ∷ ranges) =
    let both_in = common (range_of begin end) range in
    all_append IsForward (cut_to begin end range) (clear_cut begin end ranges) (cleared_forward (not (is_below both_in.begin both_in.end)) both_in.begin both_in.end refl) (cut_forward begin end ranges)

one_forward : (ranges : List KeyRange) (m : Mutation) → AllByRecursion IsForward (clipped ranges m)
one_forward ranges (Set key value) = kept_forward (in_ranges ranges key) (Set key value) tt
one_forward ranges (ClearRange begin end) = cut_forward begin end ranges
one_forward ranges (Atomic op key param) = kept_forward (in_ranges ranges key) (Atomic op key param) tt

all_forward : (ranges : List KeyRange) (muts : List Mutation) → AllByRecursion IsForward (all_clipped ranges muts)
all_forward ranges [] = tt
all_forward ranges (m ∷ ms) = all_append IsForward (clipped ranges m) (all_clipped ranges ms) (one_forward ranges m) (all_forward ranges ms)

pub clip_spelled : (ranges : List KeyRange) (muts read left : List Mutation) → left ≡ all_clipped ranges read → read ≡ muts → length (mutations_spelling (all_clipped ranges muts)) < 2 ^ 32 → HasSpelling left
clip_spelled ranges muts read left l r f =
    subst HasSpelling (sym (l ∙ ap (all_clipped ranges) r)) (record { few = f; forward = all_forward ranges muts })

pub batch_few : (muts : List Mutation) (batch bytes : Bytes) (part : ℕ) → bytes ≡ batch → batch ≡ batch_spelling muts → HasSpelling muts → 64 ≤ part → length bytes ≤ 2 ^ 32 * part
batch_few muts batch bytes part s b h p =
    let body = mutations_spelling muts in
    let few : length body < 2 ^ 32 = h.few in
    let is : length bytes ≡ length (batch_spelling muts) = ap length s ∙ ap length b in
    omega (arith, is, few, length-append (u64_bytes protocol ++ u32_bytes (length body)) body, length-append (u64_bytes protocol) (u32_bytes (length body)), length-u64_bytes protocol, length-u32_bytes (length body))
