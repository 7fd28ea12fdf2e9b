-- What is forgotten leaves the later versions as they were.
use Rattle.std.proofs.Common.{◌≡◌, ℕ, zero, suc, ◌-◌, ◌<◌, ◌≤◌, ◌⊎◌, Bool, true, false, cond, List, [], ◌∷◌, Option, Some, None, drop, ⊎_elim, inl, inr, refl, sym, ap, ◌∙◌, subst, arith, is_some}
use Rattle.std.specs.List.{slice_get, AllByRecursion}
use Rattle.std.proofs.lemmas.Bool.{cases_lt, le-leb, lt-leb}
use Rattle.fb_bytes.specs.Bytes.{Bytes}
use Rattle.fb_bytes.specs.Options.{IsIn}
use Rattle.fb_bytes.proofs.Order.{not_both}
use Rattle.mutations.specs.declared.batch.Batch.{Batch}
use Rattle.mutations.proofs.Basics.{by_test, all_weaker}
use Rattle.versioned_kv.specs.Chains.{Row, Chain, rows_upto, value_in, rows_of}
use Rattle.versioned_kv.specs.inner.Chains.{AreRising, AreChains}
use Rattle.versioned_kv.specs.Forgotten.{rows_fallen, forgotten, all_forgotten}
use Rattle.versioned_kv.specs.inner.Sound.{AreOf}
use Rattle.versioned_kv.specs.Applied.{Holds}
use Rattle.versioned_kv.proofs.Values.{later_rows, no_value, value_there, rest_upto, rows_rise}
use Rattle.versioned_kv.proofs.Changes.{forgotten_is, chains_each, all_each, rows_each}

-- ---- lists

pub all_drop : {A : Type 0} (P : A → Type 0) (n : ℕ) (xs : List A) → AllByRecursion P xs → AllByRecursion P (drop n xs)
all_drop P zero xs h = h
all_drop P (suc n) [] h = tt
all_drop P (suc n) (x ∷ xs) h = all_drop P n xs h.1

rising_drop : (n : ℕ) (rows : List Row) → AreRising rows → AreRising (drop n rows)
rising_drop zero rows h = h
rising_drop (suc n) [] h = tt
rising_drop (suc n) (r ∷ rs) h = rising_drop n rs h.1

-- ---- which rows fall

-- rows past a version
abbrev pub ArePast : ℕ → List Row → Type 0
ArePast oldest rows = AllByRecursion (λ (row : Row). oldest < row.version) rows

upto_first : (oldest : ℕ) (r : Row) (rs : List Row) → r.version ≤ oldest → rows_upto oldest (r ∷ rs) ≡ suc (rows_upto oldest rs)
upto_first oldest r rs l = let t = le-leb r.version oldest l in rw t refl

upto_none : (oldest : ℕ) (rows : List Row) → ArePast oldest rows → rows_upto oldest rows ≡ zero
upto_none oldest [] h = refl
upto_none oldest (r ∷ rs) h = let t = lt-leb r.version oldest h.0 in rw t refl

pub past_upto : (oldest : ℕ) (rows : List Row) → AreRising rows → ArePast oldest (drop (rows_upto oldest rows) rows)
past_upto oldest [] h = tt
past_upto oldest (r ∷ rs) h = ⊎_elim
    (λ l.
    let past : ArePast oldest (r ∷ rs) = (l, all_weaker (λ (s : Row). r.version < s.version) (λ (s : Row). oldest < s.version) (λ s k. omega arith) rs h.0) in
    subst (λ n. ArePast oldest (drop n (r ∷ rs))) (sym (upto_none oldest (r ∷ rs) past)) past)
    (λ l. subst (λ n. ArePast oldest (drop n (r ∷ rs))) (sym (upto_first oldest r rs l)) (past_upto oldest rs h.1))
    (cases_lt oldest r.version)

-- rows of which none falls
pub past_stay : (oldest : ℕ) (rows : List Row) → ArePast oldest rows → forgotten oldest rows ≡ rows
past_stay oldest rows h =
    let none = upto_none oldest rows h in
    let n : rows_fallen oldest rows ≡ zero = by_test (is_some (value_in rows oldest None)) (λ n. n ≡ zero) (rows_upto oldest rows - 1) (rows_upto oldest rows) (λ e. omega arith) (λ e. omega arith) in
    ap (λ n. drop n rows) n

pub first_stays : (oldest : ℕ) (r : Row) (rs : List Row) → r.version ≤ oldest → is_some r.value ≡ true → ArePast oldest rs → forgotten oldest (r ∷ rs) ≡ r ∷ rs
first_stays oldest r rs l s h =
    let one = upto_first oldest r rs l in
    let none = upto_none oldest rs h in
    let t = le-leb r.version oldest l in
    let same : value_in (r ∷ rs) oldest None ≡ r.value = ap (λ b. value_in rs oldest (cond b r.value None)) t ∙ later_rows oldest rs r.value h in
    let some : is_some (value_in (r ∷ rs) oldest None) ≡ true = ap (λ (o : Option Bytes). is_some o) same ∙ s in
    let n : rows_fallen oldest (r ∷ rs) ≡ zero = ap (λ b. cond b (rows_upto oldest (r ∷ rs) - 1) (rows_upto oldest (r ∷ rs))) some ∙ (omega arith) in
    ap (λ n. drop n (r ∷ rs)) n

last_at : (oldest : ℕ) (rows : List Row) (q : ℕ) → rows_upto oldest rows ≡ suc q → (last : Row) × (slice_get rows q ≡ Some last) × (last.version ≤ oldest) × (drop q rows ≡ last ∷ drop (suc q) rows)
last_at oldest [] q e = absurd (omega arith)
last_at oldest (r ∷ rs) zero e = let k = rest_upto oldest r rs zero e in (r, refl, k.0, refl)
last_at oldest (r ∷ rs) (suc q) e = let k = rest_upto oldest r rs (suc q) e in last_at oldest rs q k.1

-- What is left: the rows past the version, and before them the last one up to it where that has a value.
pub record Left (oldest : ℕ) (rows : List Row) : Type 0 where
  pub shape : ((forgotten oldest rows ≡ drop (rows_upto oldest rows) rows) × (value_in rows oldest None ≡ None)) ⊎ ((last : Row) × (forgotten oldest rows ≡ last ∷ drop (rows_upto oldest rows) rows) × (last.version ≤ oldest) × (is_some last.value ≡ true) × (value_in rows oldest None ≡ last.value))

pub left : (oldest : ℕ) (rows : List Row) → AreRising rows → Left oldest rows
left oldest rows h = go (is_some (value_in rows oldest None)) refl
  where
    none : (o : Option Bytes) → is_some o ≡ false → o ≡ None
    none None e = refl
    none (Some x) e = not_both refl e

    some : (u : ℕ) → rows_upto oldest rows ≡ u → is_some (value_in rows oldest None) ≡ true → Left oldest rows
    some zero e t = not_both t (ap (λ (o : Option Bytes). is_some o) (no_value oldest rows h e))
    some (suc q) e t =
        let at = last_at oldest rows q e in
        let value : value_in rows oldest None ≡ at.0.value = value_there oldest rows q at.0 None h e at.1 in
        let n : rows_fallen oldest rows ≡ q = ap (λ b. cond b (rows_upto oldest rows - 1) (rows_upto oldest rows)) t ∙ (omega arith) in
        record { shape = inr (at.0, ap (λ n. drop n rows) n ∙ at.3 ∙ ap (λ n. at.0 ∷ drop n rows) (sym e), at.2, ap (λ (o : Option Bytes). is_some o) (sym value) ∙ t, value) }

    go : (b : Bool) → is_some (value_in rows oldest None) ≡ b → Left oldest rows
    go true e = some (rows_upto oldest rows) refl e
    go false e = record { shape = inl (ap (λ b. drop (cond b (rows_upto oldest rows - 1) (rows_upto oldest rows)) rows) e, none (value_in rows oldest None) e) }

pub forgotten_again : (oldest : ℕ) (rows : List Row) → AreRising rows → forgotten oldest (forgotten oldest rows) ≡ forgotten oldest rows
forgotten_again oldest rows h =
    let past = past_upto oldest rows h in
    ⊎_elim
    (λ k. subst (λ (xs : List Row). forgotten oldest xs ≡ xs) (sym k.0) (past_stay oldest (drop (rows_upto oldest rows) rows) past))
    (λ k. subst (λ (xs : List Row). forgotten oldest xs ≡ xs) (sym k.1) (first_stays oldest k.0 (drop (rows_upto oldest rows) rows) k.2 k.3 past))
    (left oldest rows h).shape

pub rising_left : (oldest : ℕ) (rows : List Row) → AreRising rows → AreRising (forgotten oldest rows)
rising_left oldest rows h = rising_drop (rows_fallen oldest rows) rows h

-- ---- the later versions

split_value : (oldest at : ℕ) (rows : List Row) (before : Option Bytes) → AreRising rows → oldest ≤ at → value_in rows at before ≡ value_in (drop (rows_upto oldest rows) rows) at (value_in rows oldest before)
split_value oldest at [] before h l = refl
split_value oldest at (r ∷ rs) before h l = ⊎_elim
    (λ k.
    let past : ArePast oldest (r ∷ rs) = (k, all_weaker (λ (s : Row). r.version < s.version) (λ (s : Row). oldest < s.version) (λ s m. omega arith) rs h.0) in
    ap (λ (o : Option Bytes). value_in (r ∷ rs) at o) (sym (later_rows oldest (r ∷ rs) before past))
    ∙ ap (λ n. value_in (drop n (r ∷ rs)) at (value_in (r ∷ rs) oldest before)) (sym (upto_none oldest (r ∷ rs) past)))
    (λ k.
    let t = le-leb r.version oldest k in
    let s = le-leb r.version at (omega arith) in
    ap (λ b. value_in rs at (cond b r.value before)) s
    ∙ split_value oldest at rs r.value h.1 l
    ∙ ap (λ b. value_in (drop (rows_upto oldest rs) rs) at (value_in rs oldest (cond b r.value before))) (sym t)
    ∙ ap (λ n. value_in (drop n (r ∷ rs)) at (value_in (r ∷ rs) oldest before)) (sym (upto_first oldest r rs k)))
    (cases_lt oldest r.version)

-- from the oldest version on the value is the same
value_kept : (oldest at : ℕ) (rows : List Row) → AreRising rows → oldest ≤ at → value_in (forgotten oldest rows) at None ≡ value_in rows at None
value_kept oldest at rows h l =
    let rest = drop (rows_upto oldest rows) rows in
    let split = split_value oldest at rows None h l in
    ⊎_elim
    (λ k. ap (λ (xs : List Row). value_in xs at None) k.0 ∙ ap (λ (o : Option Bytes). value_in rest at o) (sym k.1) ∙ sym split)
    (λ k.
    let t = le-leb k.0.version at (let m = k.2 in omega arith) in
    ap (λ (xs : List Row). value_in xs at None) k.1 ∙ ap (λ b. value_in rest at (cond b k.0.value None)) t ∙ ap (λ (o : Option Bytes). value_in rest at o) (sym k.4) ∙ sym split)
    (left oldest rows h).shape

-- ---- all chains

pub chains_kept : (oldest : ℕ) (chains : List Chain) → AreChains chains → AreChains (all_forgotten oldest chains)
chains_kept oldest chains h = subst AreChains (sym (forgotten_is oldest chains)) (chains_each (forgotten oldest) chains (rising_left oldest) h)

pub of_kept : (oldest : ℕ) (versions : List ℕ) (chains : List Chain) → AreOf versions chains → AreOf versions (all_forgotten oldest chains)
of_kept oldest versions chains h = subst (AreOf versions) (sym (forgotten_is oldest chains)) (all_each (λ key rows. AllByRecursion (λ (r : Row). IsIn r.version versions) rows) (forgotten oldest) chains (λ key rows k. all_drop (λ (r : Row). IsIn r.version versions) (rows_fallen oldest rows) rows k) h)

pub rows_kept : (oldest : ℕ) (chains : List Chain) (k : Bytes) → AreChains chains → rows_of (all_forgotten oldest chains) k ≡ forgotten oldest (rows_of chains k)
rows_kept oldest chains k h = ap (λ (cs : List Chain). rows_of cs k) (forgotten_is oldest chains) ∙ rows_each (forgotten oldest) chains k (past_stay oldest [] tt) h

pub holds_kept : (limit old oldest : ℕ) (versions : List ℕ) (chains : List Chain) (entries : List Batch) → AreChains chains → old ≤ oldest → Holds (record { limit = limit; oldest = old; versions = versions; chains = chains }) entries → Holds (record { limit = limit; oldest = oldest; versions = versions; chains = all_forgotten oldest chains }) entries
holds_kept limit old oldest versions chains entries ordered l h = record {
  rising = h.rising;
  versions = h.versions;
  states = λ key at live. ap (λ (rs : List Row). value_in rs at None) (rows_kept oldest chains key ordered) ∙ value_kept oldest at (rows_of chains key) (rows_rise key chains ordered) live ∙ h.states key at (omega arith);
}

-- ---- a step of the loop

pub rising_at : (place : ℕ) (chains : List Chain) (chain : Chain) → AreChains chains → slice_get chains place ≡ Some chain → AreRising chain.rows
rising_at place [] chain h g = cc
rising_at zero (c ∷ cs) chain h g = let same : c ≡ chain = cc in subst (λ (x : Chain). AreRising x.rows) same h.2
rising_at (suc place) (c ∷ cs) chain h g = rising_at place cs chain h.3 g
