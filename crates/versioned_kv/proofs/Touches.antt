-- What a write leaves alone.
use Rattle.std.proofs.Common.{◌≡◌, ℕ, zero, suc, ◌+◌, ◌<◌, ◌≤◌, Bool, true, false, ◌&&◌, ◌||◌, cond, List, [], ◌∷◌, length, None, ⊎_elim, inl, inr, refl, sym, ap, ◌∙◌, subst, arith, is_some}
use Rattle.std.specs.List.{AllByRecursion}
use Rattle.std.proofs.lemmas.Bool.{cases_eq, eq-eqb, ne_eqb}
use Rattle.fb_bytes.specs.Bytes.{Bytes, is_below, is_same}
use Rattle.fb_bytes.specs.declared.KeyRange.{KeyRange}
use Rattle.fb_bytes.specs.Keys.{holds}
use Rattle.fb_bytes.specs.Options.{IsIn}
use Rattle.fb_bytes.proofs.Order.{not_both, same_eq, same_itself, below_not_same}
use Rattle.mutations.specs.declared.mutation.Mutation.{Mutation}
use Rattle.mutations.specs.Effects.{touches_key}
use Rattle.mutations.proofs.Basics.{by_test, all_weaker}
use Rattle.versioned_kv.specs.Chains.{Row, Chain, value_in, rows_of}
use Rattle.versioned_kv.specs.inner.Chains.{AreRising, AreChains}
use Rattle.versioned_kv.specs.Edits.{without_rows}
use Rattle.versioned_kv.specs.inner.Edits.{put_row, put_at, clear_chain, cleared_upto, IsClearedUpto, Extends}
use Rattle.versioned_kv.specs.inner.Sound.{AreOf}
use Rattle.versioned_kv.specs.Applied.{IsPast}
use Rattle.versioned_kv.specs.Touched.{touched, RowsStay, WritesAt}
use Rattle.versioned_kv.specs.inner.Touched.{has_value_in}
use Rattle.versioned_kv.proofs.Values.{rows_rise}
use Rattle.versioned_kv.proofs.Puts.{rows_put}
use Rattle.versioned_kv.proofs.Cuts.{rows_left}
use Rattle.versioned_kv.proofs.Holding.{cut_back}

-- ---- one mutation

pub put_stays : (key : Bytes) (row : Row) (chains : List Chain) → AreChains chains → RowsStay (is_same key) chains (put_at key row chains)
put_stays key row chains h = λ k e. rows_put key row chains k h ∙ ap (λ b. cond b (put_row row (rows_of chains k)) (rows_of chains k)) e

rows_clear : (range : KeyRange) (version : ℕ) (place : ℕ) (chains : List Chain) (k : Bytes) → has_value_in range version chains k ≡ false → rows_of (cleared_upto place range version chains) k ≡ rows_of chains k
rows_clear range version zero chains k h = refl
rows_clear range version (suc place) [] k h = refl
rows_clear range version (suc place) (c ∷ cs) k h = step (is_same c.key k) refl (holds range c.key) refl h (rows_clear range version place cs k)
  where
    cleared : Chain
    cleared = record { key = c.key; rows = put_row (record { version = version; value = None }) c.rows }

    step : (s : Bool) → is_same c.key k ≡ s → (b : Bool) → holds range c.key ≡ b → (holds range k && is_some (value_in (cond s c.rows (rows_of cs k)) version None)) ≡ false → (has_value_in range version cs k ≡ false → rows_of (cleared_upto place range version cs) k ≡ rows_of cs k) → rows_of (cleared_upto (suc place) range version (c ∷ cs)) k ≡ rows_of (c ∷ cs) k
    step true p false e h ih = rw (e, p) refl
    step true p true e h ih =
        let t : holds range k ≡ true = subst (λ z. holds range z ≡ true) (same_eq c.key k p) e in
        let none : is_some (value_in c.rows version None) ≡ false = subst (λ b. (b && is_some (value_in c.rows version None)) ≡ false) t h in
        rw (e, none, p) refl
    step false p false e h ih = rw (e, p) (ih h)
    step false p true e h ih =
        let q : is_same (clear_chain version c).key k ≡ false = by_test (is_some (value_in c.rows version None)) (λ (x : Chain). is_same x.key k ≡ false) (record { key = c.key; rows = put_row (record { version = version; value = None }) c.rows }) c (λ w. p) (λ w. p) in
        rw (e, q, p) (ih h)

pub clear_stays : (range : KeyRange) (version : ℕ) (old new : List Chain) → IsClearedUpto range version old new → RowsStay (has_value_in range version old) old new
clear_stays range version old new p = λ k e. ap (λ (cs : List Chain). rows_of cs k) p.cleared ∙ rows_clear range version p.place old k e

pub not_held : (range : KeyRange) (version : ℕ) (chains : List Chain) (key : Bytes) → holds range key ≡ false → has_value_in range version chains key ≡ false
not_held range version chains key h = rw h refl

-- ---- mutations

or_parts : (a b : Bool) → (a || b) ≡ false → (a ≡ false) × (b ≡ false)
or_parts false b h = (refl, h)
or_parts true b h = not_both refl h

pub untouched : (m : Mutation) (ms : List Mutation) (key : Bytes) → touched (m ∷ ms) key ≡ false → (touches_key m key ≡ false) × (touched ms key ≡ false)
untouched m ms key h = or_parts (touches_key m key) (touched ms key) h

-- ---- keys that were there

pub all_two : {A : Type 0} (P Q R : A → Type 0) → ((x : A) → P x → Q x → R x) → (xs : List A) → AllByRecursion P xs → AllByRecursion Q xs → AllByRecursion R xs
all_two P Q R f [] h k = tt
all_two P Q R f (x ∷ xs) h k = (f x h.0 k.0, all_two P Q R f xs h.1 k.1)

-- each chain has the rows of its key
pub own_rows : (chains : List Chain) → AreChains chains → AllByRecursion (λ (c : Chain). (rows_of chains c.key ≡ c.rows) × (0 < length c.rows)) chains
own_rows [] h = tt
own_rows (c ∷ cs) h = (
  (ap (λ b. cond b c.rows (rows_of cs c.key)) (same_itself c.key), h.1),
  all_two (λ (d : Chain). is_below c.key d.key ≡ true) (λ (d : Chain). (rows_of cs d.key ≡ d.rows) × (0 < length d.rows)) (λ (d : Chain). (rows_of (c ∷ cs) d.key ≡ d.rows) × (0 < length d.rows))
      (λ d b k. (ap (λ t. cond t c.rows (rows_of cs d.key)) (below_not_same c.key d.key b) ∙ k.0, k.1)) cs h.0 (own_rows cs h.3),
)

-- what holds of each key's rows holds of each chain
pub each_chain : (P : Bytes → List Row → Type 0) (chains : List Chain) → AreChains chains → ((key : Bytes) → P key (rows_of chains key)) → AllByRecursion (λ (c : Chain). P c.key c.rows) chains
each_chain P chains h f = all_weaker (λ (c : Chain). (rows_of chains c.key ≡ c.rows) × (0 < length c.rows)) (λ (c : Chain). P c.key c.rows) (λ c k. subst (P c.key) k.0 (f c.key)) chains (own_rows chains h)

abbrev made : List Row → Bytes → Chain
made rows key = record { key = key; rows = rows }

was_there : (old : List Chain) (c : Chain) → rows_of old c.key ≡ c.rows → 0 < length c.rows → IsIn c old
was_there [] c e l = let n : zero ≡ length c.rows = ap length e in absurd (omega arith)
was_there (d ∷ ds) c e l = go (is_same d.key c.key) refl e (λ q. was_there ds c q l)
  where
    go : (b : Bool) → is_same d.key c.key ≡ b → cond b d.rows (rows_of ds c.key) ≡ c.rows → (rows_of ds c.key ≡ c.rows → IsIn c ds) → IsIn c (d ∷ ds)
    go true s q ih = inl (ap (made c.rows) (sym (same_eq d.key c.key s)) ∙ ap (λ (rs : List Row). made rs d.key) (sym q))
    go false s q ih = inr (ih q)

pub keys_stay : (test : Bytes → Bool) (old new : List Chain) → AreChains new → RowsStay test old new → AllByRecursion (λ (c : Chain). test c.key ≡ false → IsIn c old) new
keys_stay test old new h stay = all_weaker (λ (c : Chain). (rows_of new c.key ≡ c.rows) × (0 < length c.rows)) (λ (c : Chain). test c.key ≡ false → IsIn c old) (λ c k e. was_there old c (sym (stay c.key e) ∙ k.0) k.1) new (own_rows new h)

-- ---- one row of a version

without_above : (version : ℕ) (rows : List Row) → AllByRecursion (λ (r : Row). version < r.version) rows → without_rows version rows ≡ rows
without_above version [] h = refl
without_above version (r ∷ rs) h = let t = ne_eqb r.version version (λ q. let l = h.0 in omega arith) in rw t (ap (λ (xs : List Row). r ∷ xs) (without_above version rs h.1))

pub one_of : (version : ℕ) (rows : List Row) → AreRising rows → length rows ≤ length (without_rows version rows) + 1
one_of version [] h = omega arith
one_of version (r ∷ rs) h = ⊎_elim
    (λ q. let t = eq-eqb r.version version q in
    let same = ap length (without_above version rs (subst (λ n. AllByRecursion (λ (s : Row). n < s.version) rs) q h.0)) in
    let m : length (without_rows version (r ∷ rs)) ≡ length (without_rows version rs) = ap (λ b. length (cond b (without_rows version rs) (r ∷ without_rows version rs))) t in
    omega arith)
    (λ q. let t = ne_eqb r.version version q in
    let ih = one_of version rs h.1 in
    let m : length (without_rows version (r ∷ rs)) ≡ suc (length (without_rows version rs)) = ap (λ b. length (cond b (without_rows version rs) (r ∷ without_rows version rs))) t in
    omega arith)
    (cases_eq r.version version)

pub writes_at : (version : ℕ) (versions : List ℕ) (old new : List Chain) (test : Bytes → Bool) → AreChains old → IsPast version versions → AreOf versions old → Extends version old new → RowsStay test old new → WritesAt test old new
writes_at version versions old new test ordered past known extends stay = record {
  rows = stay;
  keys = keys_stay test old new extends.chains stay;
  one = λ key.
      let same : rows_of old key ≡ without_rows version (rows_of new key) = ap (λ (cs : List Chain). rows_of cs key) (sym (cut_back version versions old new ordered past known extends)) ∙ rows_left version new key extends.chains in
      let n = ap length same in
      let m = one_of version (rows_of new key) (rows_rise key new extends.chains) in
      omega arith;
}
