-- What a database keeps in step, after each of its steps.
use Rattle.std.proofs.Common.{◌≡◌, ℕ, suc, ◌<◌, ◌≤◌, max, eqb, nat_eq, nat_lt, Bool, true, false, not, ◌&&◌, ◌||◌, cond, List, [], ◌∷◌, ◌++◌, length, take, drop, map, Option, Some, None, refl, sym, ap, ◌∙◌, subst, arith}
use Rattle.std.specs.List.{AllByRecursion, filter}
use Rattle.std.proofs.lemmas.Bool.{eq-eqb, ne_eqb, cond-false, eqb-true, lt-leb}
use Rattle.std.proofs.lemmas.List.{append-nil, map-append, drop_all, take_all}
use Rattle.std.proofs.lemmas.List.Elements.{filter-append}
use Rattle.fb_bytes.specs.declared.KeyRange.{KeyRange}
use Rattle.mutations.specs.declared.Mutation.{Mutation}
use Rattle.mutations.specs.declared.Batch.{Batch}
use Rattle.mutations.specs.declared.Entry.{Entry}
use Rattle.mutations.specs.Clipping.{all_clipped}
use Rattle.mutations.specs.Replay.{is_within, AreRising}
use Rattle.mutations.specs.Histories.{batches_of, logged, lock_after, locked, with_batch}
use Rattle.mutations.proofs.Basics.{by_test, all_weaker}
use Rattle.mutations.proofs.Logs.{logged_append}
use Rattle.mutations.proofs.States.{lock_law}
use Rattle.versioned_kv.specs.Applied.{Contents, Holds}
use Rattle.log_keys.specs.Laws.{NewestLaw, EraseJoinLaw}
use Rattle.log_keys.specs.Logs.{Standing, AreOrdered, is_between, is_older, erased, without, batch_of, batches_between}
use Rattle.database.specs.Logs.{JobLog, log_of, with_log, without_log, erased_to, with_erased}
use Rattle.database.specs.inner.Logs.{AreInOrder}
use Rattle.database.specs.inner.Kept.{Stands, AreBelow, AreNamed, IsKept, put_all}
use Rattle.database.proofs.JobLogs.{all_with, in_order_with, in_order_without}
use Rattle.database.proofs.Logged.{all_put, stand_on, named_below}

some_same : {X : Type 0} (a b : X) → Some a ≡ Some b → a ≡ b
some_same a b h = cc

-- ---- the last one of a list

all_front : {X : Type 0} (P : X → Type 0) (xs : List X) (y : X) → AllByRecursion P (xs ++ y ∷ []) → AllByRecursion P xs
all_front P [] y h = tt
all_front P (x ∷ xs) y h = (h.0, all_front P xs y h.1)

all_last : {X : Type 0} (P : X → Type 0) (xs : List X) (y : X) → AllByRecursion P (xs ++ y ∷ []) → P y
all_last P [] y h = h.0
all_last P (x ∷ xs) y h = all_last P xs y h.1

all_join : {X : Type 0} (P : X → Type 0) (xs : List X) (y : X) → AllByRecursion P xs → P y → AllByRecursion P (xs ++ y ∷ [])
all_join P [] y h p = (p, tt)
all_join P (x ∷ xs) y h p = (h.0, all_join P xs y h.1 p)

all_filtered : {X : Type 0} (P Q : X → Type 0) (test : X → Bool) → ((x : X) → test x ≡ true → P x → Q x) → (xs : List X) → AllByRecursion P xs → AllByRecursion Q (filter test xs)
all_filtered P Q test f [] h = tt
all_filtered P Q test f (x ∷ xs) h = go (test x) refl (all_filtered P Q test f xs h.1)
  where
    go : (b : Bool) → test x ≡ b → AllByRecursion Q (filter test xs) → AllByRecursion Q (cond b (x ∷ filter test xs) (filter test xs))
    go true e ih = (f x e h.0, ih)
    go false e ih = ih

-- ---- an entry more

named_more : (history : List Entry) (entry : Entry) (logs : List JobLog) (keys : List Standing) → AreNamed history keys → AreNamed (history ++ entry ∷ []) (put_all entry.version entry.muts logs keys)
named_more history entry logs keys n test h =
    all_put (λ (one : Standing). test one.version ≡ true) entry.version entry.muts logs keys (λ job ms. all_last (λ (e : Entry). test e.version ≡ true) history entry h) (n test (all_front (λ (e : Entry). test e.version ≡ true) history entry h))

kept_put : NewestLaw → (block : ℕ) (history : List Entry) (lock : Option ℕ) (logs : List JobLog) (keys : List Standing) (old new : Contents) (entry : Entry) → IsKept block history lock logs keys old
    → AllByRecursion (λ (earlier : Entry). earlier.version < entry.version) history → AreOrdered (put_all entry.version entry.muts logs keys) → Holds new (batches_of (history ++ entry ∷ [])) → new.limit ≡ old.limit
    → IsKept block (history ++ entry ∷ []) (locked (history ++ entry ∷ [])) logs (put_all entry.version entry.muts logs keys) new
kept_put law block history lock logs keys old new entry k past o h l = record {
  limit = l ∙ k.limit;
  holds = h;
  lock_is = refl;
  in_order = k.in_order;
  standing = stand_on law history entry logs keys k.in_order (named_below entry.version history keys k.named past) o k.standing;
  named = named_more history entry logs keys k.named;
}

pub kept_more : NewestLaw → (block : ℕ) (history now : List Entry) (lock : Option ℕ) (logs : List JobLog) (keys stood : List Standing) (old new : Contents) (entry : Entry) → now ≡ history ++ entry ∷ [] → stood ≡ put_all entry.version entry.muts logs keys
    → AllByRecursion (λ (earlier : Entry). earlier.version < entry.version) history → AreOrdered stood → Holds new (batches_of now) → new.limit ≡ old.limit
    → IsKept block history lock logs keys old → IsKept block now (locked now) logs stood new
kept_more law block history now lock logs keys stood old new entry n s past o h l k =
    subst (λ (xs : List Entry). IsKept block xs (locked xs) logs stood new) (sym n)
    (subst (λ (xs : List Standing). IsKept block (history ++ entry ∷ []) (locked (history ++ entry ∷ [])) logs xs new) (sym s)
    (kept_put law block history lock logs keys old new entry k past (subst AreOrdered s o) (subst (λ (xs : List Entry). Holds new (batches_of xs)) n h) l))

-- nothing but the store is another one
pub kept_same : (block : ℕ) (history now : List Entry) (lock : Option ℕ) (logs : List JobLog) (keys stood : List Standing) (old new : Contents) → now ≡ history → stood ≡ keys → Holds new (batches_of now) → new.limit ≡ old.limit
    → IsKept block history lock logs keys old → IsKept block now (locked now) logs stood new
kept_same block history now lock logs keys stood old new n s h l k =
    subst (λ (xs : List Entry). IsKept block xs (locked xs) logs stood new) (sym n)
    (subst (λ (xs : List Standing). IsKept block history (locked history) logs xs new) (sym s)
    (record {
      limit = l ∙ k.limit;
      holds = subst (λ (xs : List Entry). Holds new (batches_of xs)) n h;
      lock_is = refl;
      in_order = k.in_order;
      standing = k.standing;
      named = k.named;
    }))

-- ---- the last entry less

between_without : (job begin end version : ℕ) (keys : List Standing) → batches_between job begin end (without version keys) ≡ filter (λ (batch : Batch). not (eqb batch.version version)) (batches_between job begin end keys)
between_without job begin end version [] = refl
between_without job begin end version (o ∷ os) = go (eqb o.version version) refl (is_between job begin end o.job o.version) refl (between_without job begin end version os)
  where
    go : (t : Bool) → eqb o.version version ≡ t → (u : Bool) → is_between job begin end o.job o.version ≡ u → batches_between job begin end (without version os) ≡ filter (λ (batch : Batch). not (eqb batch.version version)) (batches_between job begin end os)
        → batches_between job begin end (without version (o ∷ os)) ≡ filter (λ (batch : Batch). not (eqb batch.version version)) (batches_between job begin end (o ∷ os))
    go true t true u ih = rw (t, u) (rw t ih)
    go true t false u ih = rw (t, u) ih
    go false t true u ih = rw t (rw u (rw t (ap (λ (xs : List Batch). batch_of o ∷ xs) ih)))
    go false t false u ih = rw t (rw u ih)

-- batches of other versions pass
passes_batch : (version at : ℕ) (muts : List Mutation) (rest : List Batch) → eqb at version ≡ false → filter (λ (batch : Batch). not (eqb batch.version version)) (with_batch at muts rest) ≡ with_batch at muts (filter (λ (batch : Batch). not (eqb batch.version version)) rest)
passes_batch version at [] rest e = refl
passes_batch version at (m ∷ ms) rest e = rw e refl

front_passes : (version : ℕ) (front : List Entry) (ranges : List KeyRange) (begin end : ℕ) → AllByRecursion (λ (entry : Entry). entry.version < version) front → filter (λ (batch : Batch). not (eqb batch.version version)) (logged front ranges begin end) ≡ logged front ranges begin end
front_passes version [] ranges begin end h = refl
front_passes version (x ∷ xs) ranges begin end h =
    go (is_within begin end x.version) (front_passes version xs ranges begin end h.1)
  where
    go : (b : Bool) → filter (λ (batch : Batch). not (eqb batch.version version)) (logged xs ranges begin end) ≡ logged xs ranges begin end
        → filter (λ (batch : Batch). not (eqb batch.version version)) (cond b (with_batch x.version (all_clipped ranges x.muts) (logged xs ranges begin end)) (logged xs ranges begin end)) ≡ cond b (with_batch x.version (all_clipped ranges x.muts) (logged xs ranges begin end)) (logged xs ranges begin end)
    go true ih = passes_batch version x.version (all_clipped ranges x.muts) (logged xs ranges begin end) (ne_eqb x.version version (λ e. let l = h.0 in omega arith)) ∙ ap (with_batch x.version (all_clipped ranges x.muts)) ih
    go false ih = ih

stops_batch : (version : ℕ) (muts : List Mutation) → filter (λ (batch : Batch). not (eqb batch.version version)) (with_batch version muts []) ≡ []
stops_batch version [] = refl
stops_batch version (m ∷ ms) = let e = eq-eqb version version refl in rw e refl

last_stops : (last : Entry) (ranges : List KeyRange) (begin end : ℕ) → filter (λ (batch : Batch). not (eqb batch.version last.version)) (logged (last ∷ []) ranges begin end) ≡ []
last_stops last ranges begin end = by_test (is_within begin end last.version) (λ (xs : List Batch). filter (λ (batch : Batch). not (eqb batch.version last.version)) xs ≡ []) (with_batch last.version (all_clipped ranges last.muts) []) [] (λ e. stops_batch last.version (all_clipped ranges last.muts)) (λ e. refl)

stand_back : (front : List Entry) (last : Entry) (keys : List Standing) (log : JobLog) → AllByRecursion (λ (entry : Entry). entry.version < last.version) front → Stands (front ++ last ∷ []) keys log → Stands front (without last.version keys) log
stand_back front last keys log past s begin end e =
    let test : Batch → Bool = λ batch. not (eqb batch.version last.version) in
    between_without log.job begin end last.version keys
    ∙ ap (filter test) (s begin end e ∙ logged_append front (last ∷ []) log.ranges begin end)
    ∙ filter-append test (logged front log.ranges begin end) (logged (last ∷ []) log.ranges begin end)
    ∙ ap (λ (xs : List Batch). xs ++ filter test (logged (last ∷ []) log.ranges begin end)) (front_passes last.version front log.ranges begin end past)
    ∙ ap (λ (xs : List Batch). logged front log.ranges begin end ++ xs) (last_stops last log.ranges begin end)
    ∙ append-nil (logged front log.ranges begin end)

past_last : (front : List Entry) (last : Entry) → AreRising (batches_of (front ++ last ∷ [])) → AllByRecursion (λ (entry : Entry). entry.version < last.version) front
past_last [] last h = tt
past_last (x ∷ xs) last h = (before xs h.0, past_last xs last h.1)
  where
    before : (ys : List Entry) → AllByRecursion (λ (y : Batch). x.version < y.version) (batches_of (ys ++ last ∷ [])) → x.version < last.version
    before [] g = g.0
    before (y ∷ ys) g = before ys g.1

or_left : (a b : Bool) → (a || b) ≡ true → not b ≡ true → a ≡ true
or_left true b h n = refl
or_left false true h n = n
or_left false false h n = h

or_from : (a b : Bool) → a ≡ true → (a || b) ≡ true
or_from true b h = refl
or_from false b h = cc

or_also : (a b : Bool) → b ≡ true → (a || b) ≡ true
or_also true b h = refl
or_also false b h = h

named_less : (front : List Entry) (last : Entry) (keys : List Standing) → AreNamed (front ++ last ∷ []) keys → AreNamed front (without last.version keys)
named_less front last keys n test h =
    let wide : ℕ → Bool = λ v. test v || eqb v last.version in
    all_filtered (λ (one : Standing). wide one.version ≡ true) (λ (one : Standing). test one.version ≡ true) (λ (one : Standing). not (eqb one.version last.version)) (λ one e w. or_left (test one.version) (eqb one.version last.version) w e) keys
    (n wide (all_join (λ (entry : Entry). wide entry.version ≡ true) front last (all_weaker (λ (entry : Entry). test entry.version ≡ true) (λ (entry : Entry). wide entry.version ≡ true) (λ entry e. or_from (test entry.version) (eqb entry.version last.version) e) front h) (or_also (test last.version) (eqb last.version last.version) (eq-eqb last.version last.version refl))))

kept_back : (block : ℕ) (front : List Entry) (last : Entry) (lock : Option ℕ) (logs : List JobLog) (keys : List Standing) (old new : Contents) → Holds new (batches_of front) → new.limit ≡ old.limit
    → IsKept block (front ++ last ∷ []) lock logs keys old → IsKept block front (locked front) logs (without last.version keys) new
kept_back block front last lock logs keys old new h l k = record {
  limit = l ∙ k.limit;
  holds = h;
  lock_is = refl;
  in_order = k.in_order;
  standing = all_weaker (Stands (front ++ last ∷ []) keys) (Stands front (without last.version keys)) (λ log s. stand_back front last keys log (past_last front last k.holds.rising) s) logs k.standing;
  named = named_less front last keys k.named;
}

-- ---- the store of an entry more

abbrev pub last_batch : Entry → Batch
last_batch last = record { version = last.version; muts = last.muts }

one_more : (front : List Entry) (last : Entry) → batches_of (front ++ last ∷ []) ≡ batches_of front ++ last_batch last ∷ []
one_more [] last = refl
one_more (x ∷ xs) last = ap (λ (bs : List Batch). last_batch x ∷ bs) (one_more xs last)

pub last_held : (history front : List Entry) (last : Entry) (store : Contents) → history ≡ front ++ last ∷ [] → Holds store (batches_of history) → Holds store (batches_of front ++ last_batch last ∷ [])
last_held history front last store n h = subst (Holds store) (ap batches_of n ∙ one_more front last) h

pub last_version : (history front : List Entry) (last : Entry) (store : Contents) → history ≡ front ++ last ∷ [] → Holds store (batches_of history) → store.versions ≡ map (λ (batch : Batch). batch.version) (batches_of front) ++ last.version ∷ []
last_version history front last store n h = (last_held history front last store n h).versions ∙ map-append (λ (batch : Batch). batch.version) (batches_of front) (last_batch last ∷ [])

pub kept_less : (block : ℕ) (history front : List Entry) (last : Entry) (lock : Option ℕ) (logs : List JobLog) (keys stood : List Standing) (old new : Contents) → history ≡ front ++ last ∷ [] → stood ≡ without last.version keys → Holds new (batches_of front) → new.limit ≡ old.limit
    → IsKept block history lock logs keys old → IsKept block front (locked front) logs stood new
kept_less block history front last lock logs keys stood old new n s h l k =
    subst (λ (xs : List Standing). IsKept block front (locked front) logs xs new) (sym s)
    (kept_back block front last lock logs keys old new h l (subst (λ (xs : List Entry). IsKept block xs lock logs keys old) n k))

-- ---- the logs of jobs

none_between : (job begin end : ℕ) (keys : List Standing) → AreBelow begin keys → batches_between job begin end keys ≡ []
none_between job begin end [] h = refl
none_between job begin end (o ∷ os) h = cond-false' (is_between job begin end o.job o.version) o os (none_at (eqb o.job job) begin end o.version h.0) ∙ none_between job begin end os h.1
  where
    cond-false' : (b : Bool) (x : Standing) (xs : List Standing) → b ≡ false → map batch_of (cond b (x ∷ filter (λ one. is_between job begin end one.job one.version) xs) (filter (λ one. is_between job begin end one.job one.version) xs)) ≡ map batch_of (filter (λ one. is_between job begin end one.job one.version) xs)
    cond-false' b x xs e = rw e refl

    none_at : (b : Bool) (low high at : ℕ) → at < low → (b && is_within low high at) ≡ false
    none_at true low high at l = ap (λ (t : Bool). t && nat_lt at high) (lt-leb low at l)
    none_at false low high at l = refl

none_logged : (history : List Entry) (ranges : List KeyRange) (begin end : ℕ) → AllByRecursion (λ (entry : Entry). entry.version < begin) history → logged history ranges begin end ≡ []
none_logged [] ranges begin end h = refl
none_logged (x ∷ xs) ranges begin end h = cond-false (is_within begin end x.version) _ _ (ap (λ (t : Bool). t && nat_lt x.version end) (lt-leb begin x.version h.0)) ∙ none_logged xs ranges begin end h.1

further : (low high : ℕ) (history : List Entry) → low ≤ high → AllByRecursion (λ (entry : Entry). entry.version < low) history → AllByRecursion (λ (entry : Entry). entry.version < high) history
further low high history l h = all_weaker (λ (entry : Entry). entry.version < low) (λ (entry : Entry). entry.version < high) (λ entry p. omega arith) history h

pub kept_added : (block : ℕ) (history : List Entry) (lock : Option ℕ) (logs more : List JobLog) (keys : List Standing) (store : Contents) (log : JobLog) → more ≡ with_log log logs → log_of logs log.job ≡ None → AllByRecursion (λ (entry : Entry). entry.version < log.erased) history
    → IsKept block history lock logs keys store → IsKept block history lock more keys store
kept_added block history lock logs more keys store log m none past k =
    subst (λ (xs : List JobLog). IsKept block history lock xs keys store) (sym m)
    (record {
      limit = k.limit;
      holds = k.holds;
      lock_is = k.lock_is;
      in_order = in_order_with log logs k.in_order none;
      standing = all_with (Stands history keys) log logs (λ begin end e. none_between log.job begin end keys (named_below begin history keys k.named (further log.erased begin history e past)) ∙ sym (none_logged history log.ranges begin end (further log.erased begin history e past))) k.standing;
      named = k.named;
    })

named_kept : (history : List Entry) (test : Standing → Bool) (keys : List Standing) → AreNamed history keys → AreNamed history (filter test keys)
named_kept history test keys n passes h = all_filtered (λ (one : Standing). passes one.version ≡ true) (λ (one : Standing). passes one.version ≡ true) test (λ one e p. p) keys (n passes h)

all_mapped : {X : Type 0} (P Q : X → Type 0) (f : X → X) → ((x : X) → P x → Q (f x)) → (xs : List X) → AllByRecursion P xs → AllByRecursion Q (map f xs)
all_mapped P Q f g [] h = tt
all_mapped P Q f g (x ∷ xs) h = (g x h.0, all_mapped P Q f g xs h.1)

same_job : (job below : ℕ) (log : JobLog) → (erased_to job below log).job ≡ log.job
same_job job below log = by_test (nat_eq log.job job) (λ (x : JobLog). x.job ≡ log.job) (record log { erased = max log.erased below }) log (λ e. refl) (λ e. refl)

in_order_erased : (job below : ℕ) (logs : List JobLog) → AreInOrder logs → AreInOrder (with_erased job below logs)
in_order_erased job below [] h = tt
in_order_erased job below (log ∷ logs) h = (
  all_mapped (λ (later : JobLog). log.job < later.job) (λ (later : JobLog). (erased_to job below log).job < later.job) (erased_to job below)
      (λ (later : JobLog) l. subst (λ (n : ℕ). (erased_to job below log).job < n) (sym (same_job job below later)) (subst (λ (n : ℕ). n < later.job) (sym (same_job job below log)) l)) logs h.0,
  in_order_erased job below logs h.1,
)

-- what another job has stands as it stood
stand_other : EraseJoinLaw → (history : List Entry) (keys : List Standing) (job below : ℕ) (log : JobLog) → eqb job log.job ≡ false → Stands history keys log → Stands history (erased job below keys) log
stand_other law history keys job below log other s begin end e =
    law job below log.job begin end keys ∙ ap (λ (b : Bool). batches_between log.job (cond b (max begin below) begin) end keys) other ∙ s begin end e

back_eq : (a b : ℕ) → eqb a b ≡ false → eqb b a ≡ false
back_eq a b e = ne_eqb b a (λ (s : b ≡ a). let t = eq-eqb a b (sym s) in absurd (let q = sym t ∙ e in cc))

stand_erased : EraseJoinLaw → (history : List Entry) (keys : List Standing) (job below : ℕ) (log : JobLog) → Stands history keys log → Stands history (erased job below keys) (erased_to job below log)
stand_erased law history keys job below log s =
    by_test (nat_eq log.job job) (Stands history (erased job below keys)) (record log { erased = max log.erased below }) log
    (λ same begin end e.
    let own : job ≡ log.job = sym (eqb-true log.job job same) in
    law job below log.job begin end keys
    ∙ ap (λ (b : Bool). batches_between log.job (cond b (max begin below) begin) end keys) (eq-eqb job log.job own)
    ∙ ap (λ (n : ℕ). batches_between log.job n end keys) (above begin below log.erased e)
    ∙ s begin end (omega arith))
    (λ other. stand_other law history keys job below log (back_eq log.job job other) s)
  where
    above : (begin below old : ℕ) → max old below ≤ begin → max begin below ≡ begin
    above begin below old h = omega arith

pub kept_erased : EraseJoinLaw → (block : ℕ) (history : List Entry) (lock : Option ℕ) (logs left : List JobLog) (keys stood : List Standing) (store : Contents) (job below : ℕ) → left ≡ with_erased job below logs → stood ≡ erased job below keys
    → IsKept block history lock logs keys store → IsKept block history lock left stood store
kept_erased law block history lock logs left keys stood store job below l s k =
    subst (λ (xs : List JobLog). IsKept block history lock xs stood store) (sym l)
    (subst (λ (xs : List Standing). IsKept block history lock (with_erased job below logs) xs store) (sym s)
    (record {
      limit = k.limit;
      holds = k.holds;
      lock_is = k.lock_is;
      in_order = in_order_erased job below logs k.in_order;
      standing = all_mapped (Stands history keys) (Stands history (erased job below keys)) (erased_to job below) (λ log h. stand_erased law history keys job below log h) logs k.standing;
      named = named_kept history (λ (one : Standing). not (is_older job below one.job one.version)) keys k.named;
    }))

not_is : (b : Bool) → not b ≡ true → b ≡ false
not_is true h = cc
not_is false h = refl

pub kept_ended : EraseJoinLaw → (block : ℕ) (history : List Entry) (lock : Option ℕ) (logs left : List JobLog) (keys stood : List Standing) (store : Contents) (job below : ℕ) → left ≡ without_log job logs → stood ≡ erased job below keys
    → IsKept block history lock logs keys store → IsKept block history lock left stood store
kept_ended law block history lock logs left keys stood store job below l s k =
    subst (λ (xs : List JobLog). IsKept block history lock xs stood store) (sym l)
    (subst (λ (xs : List Standing). IsKept block history lock (without_log job logs) xs store) (sym s)
    (record {
      limit = k.limit;
      holds = k.holds;
      lock_is = k.lock_is;
      in_order = in_order_without job logs k.in_order;
      standing = all_filtered (Stands history keys) (Stands history (erased job below keys)) (λ (log : JobLog). not (nat_eq log.job job)) (λ log e h. stand_other law history keys job below log (back_eq log.job job (not_is (nat_eq log.job job) e)) h) logs k.standing;
      named = named_kept history (λ (one : Standing). not (is_older job below one.job one.version)) keys k.named;
    }))

-- ---- fields that the code works on apart

relocked : (block : ℕ) (history : List Entry) (lock holder : Option ℕ) (logs : List JobLog) (keys : List Standing) (store : Contents) → lock ≡ holder → IsKept block history holder logs keys store → IsKept block history lock logs keys store
relocked block history lock holder logs keys store e k = subst (λ (l : Option ℕ). IsKept block history l logs keys store) (sym e) k

-- what a call does to the fields, over logs that it reads
abbrev pub Keeps : List Entry → List Standing → Contents → List JobLog → List Entry → List Standing → Contents → Type 0
Keeps history keys store logs history' keys' store' = (block : ℕ) (lock : Option ℕ) → IsKept block history lock logs keys store → IsKept block history' (locked history') logs keys' store'

over_logs : (history history' : List Entry) (keys keys' : List Standing) (store store' : Contents) (read logs : List JobLog) → read ≡ logs → Keeps history keys store read history' keys' store' → Keeps history keys store logs history' keys' store'
over_logs history history' keys keys' store store' read logs r f = subst (λ (xs : List JobLog). Keeps history keys store xs history' keys' store') r f

pub kept_refused : (block : ℕ) (history history' : List Entry) (lock : Option ℕ) (keys keys' : List Standing) (store store' : Contents) (read logs : List JobLog) → read ≡ logs → history' ≡ history → Keeps history keys store read history' keys' store' → IsKept block history lock logs keys store → IsKept block history' lock logs keys' store'
kept_refused block history history' lock keys keys' store store' read logs r n f k =
    relocked block history' lock (locked history') logs keys' store' (k.lock_is ∙ sym (ap locked n)) (over_logs history history' keys keys' store store' read logs r f block lock k)

pub kept_made : (block : ℕ) (history history' : List Entry) (lock holder : Option ℕ) (keys keys' : List Standing) (store store' forgot : Contents) (read logs : List JobLog) (entry : Entry) → read ≡ logs → history' ≡ history ++ entry ∷ [] → holder ≡ lock_after lock entry.who → Keeps history keys store read history' keys' store'
    → ((entries : List Batch) → Holds store' entries → Holds forgot entries) → forgot.limit ≡ store'.limit
    → IsKept block history lock logs keys store → IsKept block history' holder logs keys' forgot
kept_made block history history' lock holder keys keys' store store' forgot read logs entry r n e f h l k =
    let made = over_logs history history' keys keys' store store' read logs r f block lock k in
    let at : holder ≡ locked history' = e ∙ ap (λ (o : Option ℕ). lock_after o entry.who) k.lock_is ∙ sym (lock_law history entry) ∙ sym (ap locked n) in
    relocked block history' holder (locked history') logs keys' forgot at
    (record {
      limit = l ∙ made.limit;
      holds = h (batches_of history') made.holds;
      lock_is = refl;
      in_order = made.in_order;
      standing = made.standing;
      named = made.named;
    })

pub kept_taken : (block : ℕ) (history' read : List Entry) (holder : Option ℕ) (keys' : List Standing) (store' : Contents) (logs : List JobLog) → read ≡ history' → holder ≡ locked read → IsKept block history' (locked history') logs keys' store' → IsKept block history' holder logs keys' store'
kept_taken block history' read holder keys' store' logs r e k = relocked block history' holder (locked history') logs keys' store' (e ∙ ap locked r) k

-- ---- what a job's log is told of

found_log : (P : JobLog → Type 0) (logs : List JobLog) (job : ℕ) (log : JobLog) → log_of logs job ≡ Some log → AllByRecursion P logs → P log × (log.job ≡ job)
found_log P [] job log h a = cc
found_log P (y ∷ ys) job log h a = go (nat_eq y.job job) refl h (λ g. found_log P ys job log g a.1)
  where
    go : (b : Bool) → nat_eq y.job job ≡ b → cond b (Some y) (log_of ys job) ≡ Some log → (log_of ys job ≡ Some log → P log × (log.job ≡ job)) → P log × (log.job ≡ job)
    go true e f ih = let same : y ≡ log = some_same y log f in (subst P same a.0, ap (λ (x : JobLog). x.job) (sym same) ∙ eqb-true y.job job e)
    go false e f ih = ih f

pub chunk_is : (block : ℕ) (history kept : List Entry) (lock : Option ℕ) (logs logs' : List JobLog) (keys : List Standing) (store : Contents) (job begin end : ℕ) (one log : JobLog) → kept ≡ history → logs' ≡ logs → IsKept block kept lock logs' keys store → log_of logs job ≡ Some one → one.erased ≤ begin → log_of logs job ≡ Some log → batches_between job begin end keys ≡ logged history log.ranges begin end
chunk_is block history kept lock logs logs' keys store job begin end one log n l k h e g =
    let found = found_log (Stands kept keys) logs' job log (ap (λ (xs : List JobLog). log_of xs job) l ∙ g) k.standing in
    let same : one ≡ log = some_same one log (sym h ∙ g) in
    ap (λ (j : ℕ). batches_between j begin end keys) (sym found.1)
    ∙ found.0 begin end (subst (λ (x : JobLog). x.erased ≤ begin) same e)
    ∙ ap (λ (xs : List Entry). logged xs log.ranges begin end) n

length-mapped : {X : Type 0} (f : X → X) (xs : List X) → length (map f xs) ≡ length xs
length-mapped f [] = refl
length-mapped f (x ∷ xs) = ap (λ n. suc n) (length-mapped f xs)

-- a list that was changed in place, of the length that it had
pub written_back : (job below : ℕ) (logs new : List JobLog) (len : ℕ) → len ≡ length logs → new ≡ with_erased job below logs → take len (new ++ drop (length new) logs) ≡ with_erased job below logs
written_back job below logs new len l e =
    let same : length new ≡ length logs = ap length e ∙ length-mapped (erased_to job below) logs in
    let none : drop (length new) logs ≡ [] = drop_all (length new) logs (omega (arith, same)) in
    ap (λ (xs : List JobLog). take len (new ++ xs)) none ∙ ap (take len) (append-nil new) ∙ take_all len new (omega (arith, same, l)) ∙ e
