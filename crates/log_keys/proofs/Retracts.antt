-- A version is taken out of one job after the other.
use Rattle.std.proofs.Common.{◌≡◌, ℕ, zero, suc, ◌+◌, ◌-◌, ◌<◌, ◌≤◌, inl, inr, Bool, true, false, not, cond, ◌&&◌, ◌||◌, eqb, ltb, leb, List, [], ◌∷◌, length, take, get_or, ⊎_elim, refl, sym, ap, subst, ◌∙◌, arith}
use Rattle.std.specs.List.{AllByRecursion, filter}
use Rattle.std.proofs.lemmas.Bool.{and_parts, eqb-true, eq-eqb, lt-ltb, le-ltb, ltb-true, le-leb, lt-leb, leb-true, cases_lt, cond-true, cond-false}
use Rattle.std.proofs.lemmas.List.{take_all}
use Rattle.mutations.proofs.Basics.{by_test, not_both}
use Rattle.log_keys.specs.Keys.{Key, is_key_below}
use Rattle.log_keys.specs.inner.Keys.{first_at}
use Rattle.log_keys.specs.Logs.{is_between}
use Rattle.log_keys.specs.inner.Parts.{Row}
use Rattle.log_keys.specs.inner.Table.{AreRising, keys_below}
use Rattle.log_keys.proofs.Orders.{all_filter}
use Rattle.log_keys.proofs.Places.{below_is, is_kept}

-- ---- tests

and_false : (b : Bool) → (b && false) ≡ false
and_false true = refl
and_false false = refl

or_false : (b : Bool) → (b || false) ≡ b
or_false true = refl
or_false false = refl

le_is : (a b : ℕ) → leb a b ≡ ltb a (b + 1)
le_is a b = elim (cases_lt b a) [
  | inl lt ↦ lt-leb a b lt ∙ sym (le-ltb a (b + 1) (omega arith))
  | inr le ↦ le-leb a b le ∙ sym (lt-ltb a (b + 1) (omega arith))
]

none_before : (n : ℕ) → ltb n 0 ≡ false
none_before n = le-ltb n 0 (omega arith)

pub upto_is : (key : Key) (job version : ℕ) → (ltb key.job job || (eqb key.job job && leb key.version version)) ≡ is_key_below key (first_at job (version + 1))
upto_is key job version =
    ap (λ (b : Bool). ltb key.job job || (eqb key.job job && b))
    (le_is key.version version ∙ sym (ap (λ (b : Bool). ltb key.version (version + 1) || (eqb key.version (version + 1) && b)) (none_before key.part) ∙ ap (λ (b : Bool). ltb key.version (version + 1) || b) (and_false (eqb key.version (version + 1))) ∙ or_false (ltb key.version (version + 1))))

pub upto_job_is : (key : Key) (job : ℕ) → leb key.job job ≡ is_key_below key (first_at (job + 1) 0)
upto_job_is key job =
    le_is key.job job
    ∙ sym (
    ap (λ (b : Bool). ltb key.job (job + 1) || (eqb key.job (job + 1) && (b || (eqb key.version 0 && ltb key.part 0)))) (none_before key.version)
    ∙ ap (λ (b : Bool). ltb key.job (job + 1) || (eqb key.job (job + 1) && (eqb key.version 0 && b))) (none_before key.part)
    ∙ ap (λ (b : Bool). ltb key.job (job + 1) || (eqb key.job (job + 1) && b)) (and_false (eqb key.version 0))
    ∙ ap (λ (b : Bool). ltb key.job (job + 1) || b) (and_false (eqb key.job (job + 1))) ∙ or_false (ltb key.job (job + 1))
    )

-- ---- what is taken out

abbrev pub is_other : ℕ → Row → Bool
is_other version row = not (eqb row.key.version version)

-- of the version, where it is between it and the next
only : (version n : ℕ) → (leb version n && ltb n (version + 1)) ≡ true → n ≡ version
only version n e =
    let p = and_parts (leb version n) (ltb n (version + 1)) e in
    let low = leb-true version n p.0 in
    let high = ltb-true n (version + 1) p.1 in
    omega (arith, low, high)

within : (version n : ℕ) → n ≡ version → (leb version n && ltb n (version + 1)) ≡ true
within version n e = rw (le-leb version n (omega arith), lt-ltb n (version + 1) (omega arith)) refl

filter_twice : (version job : ℕ) (rows : List Row) → filter (is_other version) (filter (is_kept job version (version + 1)) rows) ≡ filter (is_other version) rows
filter_twice version job [] = refl
filter_twice version job (r ∷ rs) = go (is_between job version (version + 1) r.key.job r.key.version) refl (filter_twice version job rs)
  where
    kept : List Row
    kept = filter (is_kept job version (version + 1)) rs

    go : (b : Bool) → is_between job version (version + 1) r.key.job r.key.version ≡ b → filter (is_other version) (filter (is_kept job version (version + 1)) rs) ≡ filter (is_other version) rs → filter (is_other version) (cond (not b) (r ∷ filter (is_kept job version (version + 1)) rs) (filter (is_kept job version (version + 1)) rs)) ≡ filter (is_other version) (r ∷ rs)
    go true e ih =
        let p = and_parts (eqb r.key.job job) (leb version r.key.version && ltb r.key.version (version + 1)) e in
        let is = only version r.key.version p.1 in
        ih ∙ sym (cond-false (is_other version r) _ _ (ap not (eq-eqb r.key.version version is)))
    go false e ih = ap (λ (rows : List Row). cond (is_other version r) (r ∷ rows) rows) ih

pub rising_filter : (test : Row → Bool) (rows : List Row) → AreRising rows → AreRising (filter test rows)
rising_filter test [] h = tt
rising_filter test (r ∷ rs) h =
    by_test (test r) AreRising (r ∷ filter test rs) (filter test rs)
    (λ e. (all_filter (λ (later : Row). is_key_below r.key later.key ≡ true) test rs h.0, rising_filter test rs h.1))
    (λ e. rising_filter test rs h.1)

-- ---- jobs in order

below_job : (a b : Key) → is_key_below a b ≡ true → a.job ≤ b.job
below_job a b h = elim (below_is a b h) [ inl lt ↦ omega arith | inr p ↦ (let e = p.0 in omega arith) ]

behind_job : (key : Key) (rows : List Row) → AllByRecursion (λ (later : Row). is_key_below key later.key ≡ true) rows → AllByRecursion (λ (later : Row). key.job ≤ later.key.job) rows
behind_job key [] h = tt
behind_job key (r ∷ rs) h = (below_job key r.key h.0, behind_job key rs h.1)

at_job : (job : ℕ) (rows : List Row) (i : ℕ) (d : Row) → AllByRecursion (λ (later : Row). job ≤ later.key.job) rows → i < length rows → job ≤ (get_or rows i d).key.job
at_job job [] i d h lt = absurd (omega arith)
at_job job (r ∷ rs) zero d h lt = h.0
at_job job (r ∷ rs) (suc i) d h lt = at_job job rs i d h.1 (omega arith)

-- ---- one job

-- how many rows are of a job or of earlier ones
abbrev pub past : ℕ → List Row → ℕ
past job rows = keys_below (first_at (job + 1) 0) rows

abbrev pub AreOthers : ℕ → List Row → Type 0
AreOthers version rows = AllByRecursion (λ (row : Row). eqb row.key.version version ≡ false) rows

-- up to the job none is of the version, and no more than so many rows are behind it
abbrev pub Passed : ℕ → ℕ → ℕ → List Row → Type 0
Passed version job left new = AreOthers version (take (past job new) new) × (length new - past job new ≤ left)

past_in : (job : ℕ) (r : Row) (rs : List Row) → r.key.job ≤ job → past job (r ∷ rs) ≡ suc (past job rs)
past_in job r rs le = cond-true _ (suc (past job rs)) zero (sym (upto_job_is r.key job) ∙ le-leb r.key.job job le)

past_out : (job : ℕ) (r : Row) (rs : List Row) → job < r.key.job → past job (r ∷ rs) ≡ zero
past_out job r rs lt = cond-false _ (suc (past job rs)) zero (sym (upto_job_is r.key job) ∙ lt-leb r.key.job job lt)

one_more : (version job left : ℕ) (new : List Row) (r : Row) → r.key.job ≤ job → eqb r.key.version version ≡ false → Passed version job left new → Passed version job left (r ∷ new)
one_more version job left new r le other p =
    let n = past_in job r new le in
    let few = p.1 in
    (subst (λ (k : ℕ). AreOthers version (take k (r ∷ new))) (sym n) (other, p.0), omega (arith, n, few))

none_more : (version job left : ℕ) (new : List Row) (r : Row) → job < r.key.job → length (r ∷ new) ≤ left → Passed version job left (r ∷ new)
none_more version job left new r lt few =
    let n = past_out job r new lt in
    (subst (λ (k : ℕ). AreOthers version (take k (r ∷ new))) (sym n) tt, omega (arith, n, few))

filter_short : (test : Row → Bool) (rows : List Row) → length (filter test rows) ≤ length rows
filter_short test [] = omega arith
filter_short test (r ∷ rs) = go (test r) (filter_short test rs)
  where
    go : (b : Bool) → length (filter test rs) ≤ length rs → length (cond b (r ∷ filter test rs) (filter test rs)) ≤ length (r ∷ rs)
    go true le = omega arith
    go false le = omega arith

other_version : (version job : ℕ) (r : Row) → r.key.job ≡ job → is_between job version (version + 1) r.key.job r.key.version ≡ false → eqb r.key.version version ≡ false
other_version version job r same e = go (eqb r.key.version version) refl
  where
    go : (b : Bool) → eqb r.key.version version ≡ b → eqb r.key.version version ≡ false
    go false f = f
    go true f = not_both (rw (eq-eqb r.key.job job same, within version r.key.version (eqb-true r.key.version version f)) refl) e

other_kept : (version job : ℕ) (r : Row) → eqb r.key.version version ≡ false → is_kept job version (version + 1) r ≡ true
other_kept version job r other = go (is_between job version (version + 1) r.key.job r.key.version) refl
  where
    go : (b : Bool) → is_between job version (version + 1) r.key.job r.key.version ≡ b → not b ≡ true
    go false e = refl
    go true e =
        let p = and_parts (eqb r.key.job job) (leb version r.key.version && ltb r.key.version (version + 1)) e in
        not_both (eq-eqb r.key.version version (only version r.key.version p.1)) other

-- where all are of the job or of later ones
job_passed : (version job : ℕ) (rows : List Row) → AllByRecursion (λ (later : Row). job ≤ later.key.job) rows → Passed version job (length rows) (filter (is_kept job version (version + 1)) rows)
job_passed version job [] h = (tt, omega arith)
job_passed version job (r ∷ rs) h = go (is_between job version (version + 1) r.key.job r.key.version) refl (job_passed version job rs h.1)
  where
    more : (n : ℕ) (new : List Row) → Passed version job n new → Passed version job (suc n) new
    more n new p = let few = p.1 in (p.0, omega arith)

    go : (b : Bool) → is_between job version (version + 1) r.key.job r.key.version ≡ b → Passed version job (length rs) (filter (is_kept job version (version + 1)) rs) → Passed version job (length (r ∷ rs)) (cond (not b) (r ∷ filter (is_kept job version (version + 1)) rs) (filter (is_kept job version (version + 1)) rs))
    go true e ih = more (length rs) (filter (is_kept job version (version + 1)) rs) ih
    go false e ih = ⊎_elim
        (λ lt. none_more version job (suc (length rs)) (filter (is_kept job version (version + 1)) rs) r lt (let le = filter_short (is_kept job version (version + 1)) rs in omega arith))
        (λ le. one_more version job (suc (length rs)) (filter (is_kept job version (version + 1)) rs) r le (other_version version job r (let ge = h.0 in omega arith) e) (more (length rs) (filter (is_kept job version (version + 1)) rs) ih))
        (cases_lt job r.key.job)

-- where the first is of the job
first_passed : (version job : ℕ) (r : Row) (rs : List Row) → r.key.job ≡ job → AllByRecursion (λ (later : Row). job ≤ later.key.job) rs → Passed version job (length rs) (filter (is_kept job version (version + 1)) (r ∷ rs))
first_passed version job r rs same h = go (is_between job version (version + 1) r.key.job r.key.version) refl (job_passed version job rs h)
  where
    go : (b : Bool) → is_between job version (version + 1) r.key.job r.key.version ≡ b → Passed version job (length rs) (filter (is_kept job version (version + 1)) rs) → Passed version job (length rs) (cond (not b) (r ∷ filter (is_kept job version (version + 1)) rs) (filter (is_kept job version (version + 1)) rs))
    go true e ih = ih
    go false e ih = one_more version job (length rs) (filter (is_kept job version (version + 1)) rs) r (omega arith) (other_version version job r same e) ih

step_passed : (version job done : ℕ) (rows : List Row) (d : Row) → AreRising rows → done < length rows → job ≡ (get_or rows done d).key.job → AreOthers version (take done rows) → Passed version job (length rows - (done + 1)) (filter (is_kept job version (version + 1)) rows)
step_passed version job done [] d rise lt is others = absurd (omega arith)
step_passed version job zero (r ∷ rs) d rise lt is others =
    let few : length (r ∷ rs) - (0 + 1) ≡ length rs = omega arith in
    subst (λ (n : ℕ). Passed version job n (filter (is_kept job version (version + 1)) (r ∷ rs))) (sym few)
    (first_passed version job r rs (sym is) (subst (λ (n : ℕ). AllByRecursion (λ (later : Row). n ≤ later.key.job) rs) (sym is) (behind_job r.key rs rise.0)))
step_passed version job (suc k) (r ∷ rs) d rise lt is others =
    let few : length (r ∷ rs) - (suc k + 1) ≡ length rs - (k + 1) = omega arith in
    let low = at_job r.key.job rs k d (behind_job r.key rs rise.0) (omega arith) in
    let kept = cond-true (is_kept job version (version + 1) r) (r ∷ filter (is_kept job version (version + 1)) rs) (filter (is_kept job version (version + 1)) rs) (other_kept version job r others.0) in
    subst (λ (n : ℕ). Passed version job n (filter (is_kept job version (version + 1)) (r ∷ rs))) (sym few)
    (subst (Passed version job (length rs - (k + 1))) (sym kept)
    (one_more version job (length rs - (k + 1)) (filter (is_kept job version (version + 1)) rs) r (omega (arith, low, is)) others.0 (step_passed version job k rs d rise.1 (omega arith) is others.1)))

-- ---- all jobs

-- up to a place none is of the version
pub record RetractedSo (version : ℕ) (old : List Row) (done : ℕ) (now : List Row) : Type 0 where
  pub rising : AreRising now
  pub same : filter (is_other version) now ≡ filter (is_other version) old
  pub others : AreOthers version (take done now)

pub retracts_on : (version : ℕ) (old : List Row) (done job place : ℕ) (now new : List Row) (d : Row) → done < length now → job ≡ (get_or now done d).key.job → new ≡ filter (is_kept job version (version + 1)) now → place ≡ past job new → RetractedSo version old done now → RetractedSo version old place new
retracts_on version old done job place now new d lt is made there so =
    let p = step_passed version job done now d so.rising lt is so.others in
    record {
      rising = subst AreRising (sym made) (rising_filter (is_kept job version (version + 1)) now so.rising);
      same = ap (filter (is_other version)) made ∙ filter_twice version job now ∙ so.same;
      others = subst (λ (n : ℕ). AreOthers version (take n new)) (sym there) (subst (λ (rows : List Row). AreOthers version (take (past job rows) rows)) (sym made) p.0);
    }

pub retracts_less : (version : ℕ) (old : List Row) (done job place : ℕ) (now new : List Row) (d : Row) → done < length now → job ≡ (get_or now done d).key.job → new ≡ filter (is_kept job version (version + 1)) now → place ≡ past job new → RetractedSo version old done now → length new - place < length now - done
retracts_less version old done job place now new d lt is made there so =
    let p = step_passed version job done now d so.rising lt is so.others in
    let few : length new - past job new ≤ length now - (done + 1) = subst (λ (rows : List Row). length rows - past job rows ≤ length now - (done + 1)) (sym made) p.1 in
    omega (arith, few, there)

others_stay : (version : ℕ) (rows : List Row) → AreOthers version rows → filter (is_other version) rows ≡ rows
others_stay version [] h = refl
others_stay version (r ∷ rs) h = cond-true (is_other version r) _ _ (ap not h.0) ∙ ap (λ (rows : List Row). r ∷ rows) (others_stay version rs h.1)

pub retracts_all : (version : ℕ) (old : List Row) (done : ℕ) (now : List Row) → length now ≤ done → RetractedSo version old done now → now ≡ filter (is_other version) old
retracts_all version old done now le so = sym (others_stay version now (subst (AreOthers version) (take_all done now le) so.others)) ∙ so.same
