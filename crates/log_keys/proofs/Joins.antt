-- What is joined after a put and after an erase, and what a retract undoes.
use Rattle.std.proofs.Common.{◌≡◌, ℕ, max, inl, inr, ◌<◌, Bool, true, false, not, ◌&&◌, cond, eqb, ltb, leb, List, [], ◌∷◌, ◌++◌, map, refl, sym, ap, ◌∙◌, arith}
use Rattle.std.specs.List.{AllByRecursion, filter}
use Rattle.std.proofs.lemmas.Bool.{and_parts, eqb-true, eq-eqb, ne_eqb, cases_lt, le-leb, lt-leb, lt-ltb, le-ltb, cond-true, cond-false}
use Rattle.std.proofs.lemmas.List.{append-nil, map-append}
use Rattle.mutations.specs.declared.batch.Batch.{Batch}
use Rattle.mutations.proofs.Basics.{by_test, not_both}
use Rattle.log_keys.specs.Logs.{Standing, AreOrdered, IsNewest, AreOfOthers, is_before, with_one, is_between, is_older, erased, without, batch_of, batches_between}
use Rattle.log_keys.proofs.Orders.{before, same, same_is, before_version, before_back, before_trans}
use Rattle.log_keys.proofs.Groups.{standing_test}

-- ---- one more that doesn't pass a test

left_out : (test : Standing → Bool) (one : Standing) (log : List Standing) → test one ≡ false → filter test (with_one one log) ≡ filter test log
left_out test one [] e = cond-false (test one) (one ∷ []) [] e
left_out test one (o ∷ os) e =
    by_test (is_before one.job one.version o) (λ (log : List Standing). filter test log ≡ filter test (o ∷ os)) (o ∷ with_one one os) (one ∷ o ∷ os)
    (λ f. ap (λ (xs : List Standing). cond (test o) (o ∷ xs) xs) (left_out test one os e))
    (λ f. cond-false (test one) (one ∷ filter test (o ∷ os)) (filter test (o ∷ os)) e)

pub undone : (one : Standing) (log : List Standing) → without one.version (with_one one log) ≡ without one.version log
undone one log = left_out (λ (o : Standing). not (eqb o.version one.version)) one log (ap not (eq-eqb one.version one.version refl))

pub unused : (version : ℕ) (log : List Standing) → AreOfOthers version log → without version log ≡ log
unused version [] h = refl
unused version (o ∷ os) h = cond-true (not (eqb o.version version)) _ _ (ap not h.0) ∙ ap (λ (xs : List Standing). o ∷ xs) (unused version os h.1)

-- ---- one more that is the newest of its job

of_test : (job begin end of version : ℕ) → is_between job begin end of version ≡ true → of ≡ job
of_test job begin end of version e = eqb-true of job (and_parts (eqb of job) (leb begin version && ltb version end) e).0

-- behind the newest of its job stands nothing of the job
none_later : (one : Standing) (job begin end : ℕ) (log : List Standing) → one.job ≡ job → AllByRecursion (λ (later : Standing). before one.job one.version later.job later.version ≡ true) log → IsNewest one log → filter (standing_test (is_between job begin end)) log ≡ []
none_later one job begin end [] j h n = refl
none_later one job begin end (o ∷ os) j h n = cond-false (is_between job begin end o.job o.version) _ _ (go (is_between job begin end o.job o.version) refl) ∙ none_later one job begin end os j h.1 n.1
  where
    go : (b : Bool) → is_between job begin end o.job o.version ≡ b → is_between job begin end o.job o.version ≡ false
    go false e = e
    go true e =
        let same_job : o.job ≡ one.job = of_test job begin end o.job o.version e ∙ sym j in
        let less = n.0 same_job in
        let more = before_version one.job one.version o.job o.version (sym same_job) h.0 in
        absurd (omega arith)

-- what isn't before the newest of its job is behind it
later_one : (one o : Standing) → is_before one.job one.version o ≡ false → (o.job ≡ one.job → o.version < one.version) → before one.job one.version o.job o.version ≡ true
later_one one o e n = before_back o.job o.version one.job one.version e (go (same o.job o.version one.job one.version) refl)
  where
    go : (b : Bool) → same o.job o.version one.job one.version ≡ b → same o.job o.version one.job one.version ≡ false
    go false f = f
    go true f = let p = same_is o.job o.version one.job one.version f in let less = n p.0 in let eq = p.1 in absurd (omega arith)

later_all : (one o : Standing) (log : List Standing) → before one.job one.version o.job o.version ≡ true → AllByRecursion (λ (later : Standing). before o.job o.version later.job later.version ≡ true) log → AllByRecursion (λ (later : Standing). before one.job one.version later.job later.version ≡ true) log
later_all one o [] e h = tt
later_all one o (x ∷ xs) e h = (before_trans one.job one.version o.job o.version x.job x.version e h.0, later_all one o xs e h.1)

cond_append : (b : Bool) (x one : Standing) (xs : List Standing) → cond b (x ∷ (xs ++ one ∷ [])) (xs ++ one ∷ []) ≡ cond b (x ∷ xs) xs ++ one ∷ []
cond_append true x one xs = refl
cond_append false x one xs = refl

last_in : (one : Standing) (job begin end : ℕ) (log : List Standing) → AreOrdered log → IsNewest one log → is_between job begin end one.job one.version ≡ true → filter (standing_test (is_between job begin end)) (with_one one log) ≡ filter (standing_test (is_between job begin end)) log ++ one ∷ []
last_in one job begin end [] h n e = cond-true (is_between job begin end one.job one.version) (one ∷ []) [] e
last_in one job begin end (o ∷ os) h n e =
    let test = standing_test (is_between job begin end) in
    by_test (is_before one.job one.version o) (λ (log : List Standing). filter test log ≡ filter test (o ∷ os) ++ one ∷ []) (o ∷ with_one one os) (one ∷ o ∷ os)
    (λ f. ap (λ (xs : List Standing). cond (test o) (o ∷ xs) xs) (last_in one job begin end os h.1 n.1 e) ∙ cond_append (test o) o one (filter test os))
    (λ f.
    let behind = later_one one o f n.0 in
    let none : filter test (o ∷ os) ≡ [] = none_later one job begin end (o ∷ os) (of_test job begin end one.job one.version e) (behind, later_all one o os behind h.0) n in
    cond-true (test one) (one ∷ filter test (o ∷ os)) (filter test (o ∷ os)) e
    ∙ ap (λ (xs : List Standing). one ∷ xs) none
    ∙ sym (ap (λ (xs : List Standing). xs ++ one ∷ []) none))

pub newest_last : (one : Standing) (log : List Standing) (job begin end : ℕ) → AreOrdered log → IsNewest one log
    → batches_between job begin end (with_one one log) ≡ batches_between job begin end log ++ cond (is_between job begin end one.job one.version) (batch_of one ∷ []) []
newest_last one log job begin end h n =
    by_test (is_between job begin end one.job one.version) (λ (more : List Batch). batches_between job begin end (with_one one log) ≡ batches_between job begin end log ++ more) (batch_of one ∷ []) []
    (λ e. ap (map batch_of) (last_in one job begin end log h n e) ∙ map-append batch_of (filter (standing_test (is_between job begin end)) log) (one ∷ []))
    (λ e. ap (map batch_of) (left_out (standing_test (is_between job begin end)) one log e) ∙ sym (append-nil (batches_between job begin end log)))

-- ---- what is joined after an erase

cond_twice : (t u : Bool) (x : Standing) (xs : List Standing) (test : Standing → Bool) → test x ≡ t → filter test (cond u (x ∷ xs) xs) ≡ cond (u && t) (x ∷ filter test xs) (filter test xs)
cond_twice t true x xs test e = ap (λ (b : Bool). cond b (x ∷ filter test xs) (filter test xs)) e
cond_twice t false x xs test e = refl

filter_twice : (t u v : Standing → Bool) (log : List Standing) → ((one : Standing) → (u one && t one) ≡ v one) → filter t (filter u log) ≡ filter v log
filter_twice t u v [] h = refl
filter_twice t u v (o ∷ os) h =
    cond_twice (t o) (u o) o (filter u os) t refl
    ∙ ap (λ (b : Bool). cond b (o ∷ filter t (filter u os)) (filter t (filter u os))) (h o)
    ∙ ap (λ (xs : List Standing). cond (v o) (o ∷ xs) xs) (filter_twice t u v os h)

max_test : (begin below version : ℕ) → (not (ltb version below) && leb begin version) ≡ leb (max begin below) version
max_test begin below version = elim (cases_lt version below) [
  | inl lt ↦ rw (lt-ltb version below lt, lt-leb (max begin below) version (omega arith)) refl
  | inr ge ↦ elim (cases_lt version begin) [
    | inl less ↦ rw (le-ltb version below ge, lt-leb begin version less, lt-leb (max begin below) version (omega arith)) refl
    | inr more ↦ rw (le-ltb version below ge, le-leb begin version more, le-leb (max begin below) version (omega arith)) refl
  ]
]

and_in : (a b c d : Bool) → (not (a && b) && (a && (c && d))) ≡ (a && ((not b && c) && d))
and_in true true c d = refl
and_in true false c d = refl
and_in false b c d = refl

own_test : (job below begin end of version : ℕ) → (not (is_older job below of version) && is_between job begin end of version) ≡ is_between job (max begin below) end of version
own_test job below begin end of version = and_in (eqb of job) (ltb version below) (leb begin version) (ltb version end) ∙ ap (λ (b : Bool). eqb of job && (b && ltb version end)) (max_test begin below version)

and_out : (a b c : Bool) → (a ≡ true → b ≡ false) → (not (b && c) && a) ≡ a
and_out true true c h = not_both refl (h refl)
and_out true false c h = refl
and_out false true true h = refl
and_out false true false h = refl
and_out false false c h = refl

other_test : (erased_job job below begin end of version : ℕ) → eqb erased_job job ≡ false → (not (is_older erased_job below of version) && is_between job begin end of version) ≡ is_between job begin end of version
other_test erased_job job below begin end of version e =
    and_out (is_between job begin end of version) (eqb of erased_job) (ltb version below)
    (λ f. let same_job = of_test job begin end of version f in ne_eqb of erased_job (λ g. not_both (eq-eqb erased_job job (sym g ∙ same_job)) e))

pub erase_join : (of below job begin end : ℕ) (log : List Standing) → batches_between job begin end (erased of below log) ≡ batches_between job (cond (eqb of job) (max begin below) begin) end log
erase_join of below job begin end log =
    let erase : Standing → Bool = λ one. not (is_older of below one.job one.version) in
    by_test (eqb of job) (λ (from : ℕ). batches_between job begin end (erased of below log) ≡ batches_between job from end log) (max begin below) begin
    (λ e. ap (map batch_of) (filter_twice (standing_test (is_between job begin end)) erase (standing_test (is_between job (max begin below) end)) log
    (λ one. ap (λ (j : ℕ). not (is_older j below one.job one.version) && is_between job begin end one.job one.version) (eqb-true of job e) ∙ own_test job below begin end one.job one.version)))
    (λ e. ap (map batch_of) (filter_twice (standing_test (is_between job begin end)) erase (standing_test (is_between job begin end)) log
    (λ one. other_test of job below begin end one.job one.version e)))
