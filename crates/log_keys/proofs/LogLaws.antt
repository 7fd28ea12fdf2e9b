-- What puts, erases, retracts and joins have under a job and a version.
use Rattle.std.proofs.Common.{◌≡◌, ℕ, ◌<◌, Bool, true, false, not, ◌&&◌, cond, eqb, List, [], ◌∷◌, map, Option, Some, None, refl, sym, ap, ◌∙◌}
use Rattle.std.specs.List.{AllByRecursion, filter}
use Rattle.std.proofs.lemmas.Bool.{eqb-true, eq-eqb}
use Rattle.mutations.specs.declared.batch.Batch.{Batch}
use Rattle.mutations.specs.Replay.{is_within, AreRising}
use Rattle.mutations.proofs.Basics.{by_test, not_both, all_weaker}
use Rattle.log_keys.specs.Logs.{Standing, AreOrdered, is_before, stands, with_one, is_between, is_older, erased, without, batch_of, batches_between, logged_at, batch_at}
use Rattle.log_keys.proofs.Orders.{before, same, same_is, before_version, or_parts, all_filter, all_pass}
use Rattle.log_keys.proofs.Groups.{standing_test}

cond_out : {X Y : Type 0} (f : X → Y) (b : Bool) (x y : X) → f (cond b x y) ≡ cond b (f x) (f y)
cond_out f true x y = refl
cond_out f false x y = refl

-- ---- puts

swap : {X : Type 0} (p q : Bool) (x y z : X) → (p ≡ true → q ≡ true → ⊥) → cond p x (cond q y z) ≡ cond q y (cond p x z)
swap true true x y z h = absurd (h refl refl)
swap true false x y z h = refl
swap false q x y z h = refl

apart : (a b c d job version : ℕ) → same a b c d ≡ false → same a b job version ≡ true → same c d job version ≡ true → ⊥
apart a b c d job version h p q =
    let x = same_is a b job version p in
    let y = same_is c d job version q in
    let e : same a b c d ≡ true = ap (λ (n : ℕ). same n b c d) (x.0 ∙ sym y.0) ∙ ap (λ (n : ℕ). same c n c d) (x.1 ∙ sym y.1) ∙ rw (eq-eqb c c refl, eq-eqb d d refl) refl in
    not_both e h

pub put_at : (one : Standing) (log : List Standing) (job version : ℕ) → stands one.job one.version log ≡ false → logged_at job version (with_one one log) ≡ cond (same one.job one.version job version) (Some one.muts) (logged_at job version log)
put_at one [] job version free = refl
put_at one (o ∷ os) job version free =
    let f = or_parts (same o.job o.version one.job one.version) (stands one.job one.version os) free in
    by_test (is_before one.job one.version o) (λ (log : List Standing). logged_at job version log ≡ cond (same one.job one.version job version) (Some one.muts) (logged_at job version (o ∷ os))) (o ∷ with_one one os) (one ∷ o ∷ os)
    (λ e. ap (cond (same o.job o.version job version) (Some o.muts)) (put_at one os job version f.1)
    ∙ swap (same o.job o.version job version) (same one.job one.version job version) (Some o.muts) (Some one.muts) (logged_at job version os) (apart o.job o.version one.job one.version job version f.0))
    (λ e. refl)

-- ---- what is taken out

none_both : {X : Type 0} (b : Bool) → let none : Option X = None in none ≡ cond b None None
none_both true = refl
none_both false = refl

taken_out : {X : Type 0} (s t k : Bool) (x y z : Option X) → (s ≡ true → t ≡ k) → y ≡ cond k z None → cond t (cond s x y) y ≡ cond k (cond s x z) None
taken_out true true true x y z h e = refl
taken_out true true false x y z h e = not_both refl (h refl)
taken_out true false true x y z h e = not_both refl (sym (h refl))
taken_out true false false x y z h e = e
taken_out false true k x y z h e = e
taken_out false false k x y z h e = e

filter_at : (test : ℕ → ℕ → Bool) (log : List Standing) (job version : ℕ) → logged_at job version (filter (standing_test test) log) ≡ cond (test job version) (logged_at job version log) None
filter_at test [] job version = none_both (test job version)
filter_at test (o ∷ os) job version =
    let left = filter (standing_test test) os in
    cond_out (logged_at job version) (test o.job o.version) (o ∷ left) left
    ∙ taken_out (same o.job o.version job version) (test o.job o.version) (test job version) (Some o.muts) (logged_at job version left) (logged_at job version os)
    (λ e. let x = same_is o.job o.version job version e in ap (λ (n : ℕ). test n o.version) x.0 ∙ ap (test job) x.1)
    (filter_at test os job version)

turned : {X : Type 0} (b : Bool) (x y : X) → cond (not b) x y ≡ cond b y x
turned true x y = refl
turned false x y = refl

pub erase_at : (of below : ℕ) (log : List Standing) (job version : ℕ) → logged_at job version (erased of below log) ≡ cond (is_older of below job version) None (logged_at job version log)
erase_at of below log job version = filter_at (λ j v. not (is_older of below j v)) log job version ∙ turned (is_older of below job version) (logged_at job version log) None

pub retract_at : (retracted : ℕ) (log : List Standing) (job version : ℕ) → logged_at job version (without retracted log) ≡ cond (eqb version retracted) None (logged_at job version log)
retract_at retracted log job version = filter_at (λ j v. not (eqb v retracted)) log job version ∙ turned (eqb version retracted) (logged_at job version log) None

-- ---- what is joined

abbrev AreOfJob : ℕ → List Standing → Type 0
AreOfJob job log = AllByRecursion (λ (one : Standing). eqb one.job job ≡ true) log

of_job : (job begin end : ℕ) (log : List Standing) → AreOfJob job (filter (standing_test (is_between job begin end)) log)
of_job job begin end log =
    let test = standing_test (is_between job begin end) in
    all_weaker (λ (one : Standing). test one ≡ true) (λ (one : Standing). eqb one.job job ≡ true) (λ one e. and_front (eqb one.job job) (is_within begin end one.version) e) (filter test log) (all_pass test log)
  where
    and_front : (p q : Bool) → (p && q) ≡ true → p ≡ true
    and_front true q h = refl
    and_front false q h = not_both refl (sym h)

one_job : (job version : ℕ) (log : List Standing) → AreOfJob job log → batch_at version (map batch_of log) ≡ logged_at job version log
one_job job version [] h = refl
one_job job version (o ∷ os) h =
    ap (cond (eqb o.version version) (Some o.muts)) (one_job job version os h.1)
    ∙ ap (λ (b : Bool). cond (b && eqb o.version version) (Some o.muts) (logged_at job version os)) (sym h.0)

pub join_at : (job begin end : ℕ) (log : List Standing) (version : ℕ) → batch_at version (batches_between job begin end log) ≡ cond (is_within begin end version) (logged_at job version log) None
join_at job begin end log version =
    one_job job version (filter (standing_test (is_between job begin end)) log) (of_job job begin end log)
    ∙ filter_at (is_between job begin end) log job version
    ∙ ap (λ (b : Bool). cond (b && is_within begin end version) (logged_at job version log) None) (eq-eqb job job refl)

ordered_filter : (test : Standing → Bool) (log : List Standing) → AreOrdered log → AreOrdered (filter test log)
ordered_filter test [] h = tt
ordered_filter test (o ∷ os) h =
    by_test (test o) AreOrdered (o ∷ filter test os) (filter test os)
    (λ e. (all_filter (λ (later : Standing). is_before later.job later.version o ≡ true) test os h.0, ordered_filter test os h.1))
    (λ e. ordered_filter test os h.1)

later_versions : (job version : ℕ) (of : ℕ) (log : List Standing) → eqb of job ≡ true → AreOfJob job log → AllByRecursion (λ (later : Standing). before of version later.job later.version ≡ true) log → AllByRecursion (λ (later : Batch). version < later.version) (map batch_of log)
later_versions job version of [] e h g = tt
later_versions job version of (o ∷ os) e h g = (before_version of version o.job o.version (eqb-true of job e ∙ sym (eqb-true o.job job h.0)) g.0, later_versions job version of os e h.1 g.1)

rising_of : (job : ℕ) (log : List Standing) → AreOfJob job log → AreOrdered log → AreRising (map batch_of log)
rising_of job [] h g = tt
rising_of job (o ∷ os) h g = (later_versions job o.version o.job os h.0 h.1 g.0, rising_of job os h.1 g.1)

pub join_rises : (job begin end : ℕ) (log : List Standing) → AreOrdered log → AreRising (batches_between job begin end log)
join_rises job begin end log h =
    let test = standing_test (is_between job begin end) in
    rising_of job (filter test log) (of_job job begin end log) (ordered_filter test log h)
