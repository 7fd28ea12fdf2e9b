-- What a look at one row tells of a chain's value, and a look at one chain of a key's rows.
use Rattle.std.proofs.Common.{◌≡◌, ℕ, zero, suc, ◌-◌, ◌<◌, ◌≤◌, Bool, true, false, cond, List, [], ◌∷◌, length, Option, Some, None, if◌then◌else◌, ⊎_elim, refl, sym, ap, ◌∙◌, subst, arith}
use Rattle.std.specs.List.{slice_get, AllByRecursion}
use Rattle.std.proofs.lemmas.Bool.{cases_lt, le-leb, lt-leb}
use Rattle.std.proofs.lemmas.Option.{slice_get_past}
use Rattle.fb_bytes.specs.Bytes.{Bytes, is_below, is_same}
use Rattle.fb_bytes.proofs.Order.{not_both, below_trans, below_itself, same_eq, same_itself, below_not_same, neither_below}
use Rattle.mutations.proofs.Basics.{by_test, all_weaker}
use Rattle.versioned_kv.specs.Chains.{Row, Chain, rows_upto, value_in, rows_of}
use Rattle.versioned_kv.specs.inner.Chains.{AreRising, AreChains, keys_below}

-- ---- rows

pub later_rows : (version : ℕ) (rows : List Row) (before : Option Bytes) → AllByRecursion (λ row. version < row.version) rows → value_in rows version before ≡ before
later_rows version [] before h = refl
later_rows version (r ∷ rs) before h = let e = lt-leb r.version version h.0 in rw e (later_rows version rs before h.1)

none_upto : (version : ℕ) (rows : List Row) (before : Option Bytes) → AreRising rows → rows_upto version rows ≡ zero → value_in rows version before ≡ before
none_upto version [] before h e = refl
none_upto version (r ∷ rs) before h e = ⊎_elim
    (λ l. later_rows version (r ∷ rs) before (l, all_weaker (λ (s : Row). r.version < s.version) (λ (s : Row). version < s.version) (λ s k. omega arith) rs h.0))
    (λ l. let t = le-leb r.version version l in let f : suc (rows_upto version rs) ≡ zero = subst (λ b. cond b (suc (rows_upto version rs)) zero ≡ zero) t e in absurd (omega arith))
    (cases_lt version r.version)

pub rest_upto : (version : ℕ) (r : Row) (rs : List Row) (q : ℕ) → rows_upto version (r ∷ rs) ≡ suc q → (r.version ≤ version) × (rows_upto version rs ≡ q)
rest_upto version r rs q e = ⊎_elim
    (λ l. let t = lt-leb r.version version l in let f : zero ≡ suc q = subst (λ b. cond b (suc (rows_upto version rs)) zero ≡ suc q) t e in absurd (omega arith))
    (λ l. let t = le-leb r.version version l in let f : suc (rows_upto version rs) ≡ suc q = subst (λ b. cond b (suc (rows_upto version rs)) zero ≡ suc q) t e in (l, omega arith))
    (cases_lt version r.version)

-- the last row at or below the version tells the value
pub value_there : (version : ℕ) (rows : List Row) (q : ℕ) (row : Row) (before : Option Bytes) → AreRising rows → rows_upto version rows ≡ suc q → slice_get rows q ≡ Some row → value_in rows version before ≡ row.value
value_there version [] q row before h e g = absurd (omega arith)
value_there version (r ∷ rs) zero row before h e g =
    let k = rest_upto version r rs zero e in
    let t = le-leb r.version version k.0 in
    let same : r ≡ row = cc in
    rw t (none_upto version rs r.value h.1 k.1 ∙ ap (λ (x : Row). x.value) same)
value_there version (r ∷ rs) (suc q) row before h e g =
    let k = rest_upto version r rs (suc q) e in
    let t = le-leb r.version version k.0 in
    rw t (value_there version rs q row r.value h.1 k.1 g)

pub no_value : (version : ℕ) (rows : List Row) → AreRising rows → rows_upto version rows ≡ zero → value_in rows version None ≡ None
no_value version rows h e = none_upto version rows None h e

-- ---- keys

pub above_not_same : (x y : Bytes) → is_below y x ≡ true → is_same x y ≡ false
above_not_same x y h = go (is_same x y) refl
  where
    go : (b : Bool) → is_same x y ≡ b → is_same x y ≡ false
    go true e = not_both (subst (λ z. is_below y z ≡ true) (same_eq x y e) h) (below_itself y)
    go false e = e

pub later_keys : (key : Bytes) (chains : List Chain) → AllByRecursion (λ chain. is_below key chain.key ≡ true) chains → rows_of chains key ≡ []
later_keys key [] h = refl
later_keys key (c ∷ cs) h = let e = above_not_same c.key key h.0 in rw e (later_keys key cs h.1)

-- the rows of a key, by the chain that stands where the key's would be
abbrev pub rows_there : Bytes → Option Chain → List Row
rows_there key None = []
rows_there key (Some chain) = if is_same chain.key key then chain.rows else []

at_first : (key : Bytes) (c : Chain) (cs : List Chain) → AreChains (c ∷ cs) → is_below c.key key ≡ false → rows_of (c ∷ cs) key ≡ rows_there key (Some c)
at_first key c cs h f = go (is_same c.key key) refl
  where
    go : (b : Bool) → is_same c.key key ≡ b → rows_of (c ∷ cs) key ≡ rows_there key (Some c)
    go true e = rw e refl
    go false e =
        let below : is_below key c.key ≡ true = by_cases (is_below key c.key) refl in
        rw e (later_keys key cs (all_weaker (λ (d : Chain). is_below c.key d.key ≡ true) (λ (d : Chain). is_below key d.key ≡ true) (λ d k. below_trans key c.key d.key below k) cs h.0))
      where
        by_cases : (b : Bool) → is_below key c.key ≡ b → is_below key c.key ≡ true
        by_cases true t = t
        by_cases false t = not_both (subst (λ z. is_same c.key z ≡ true) (neither_below c.key key f t) (same_itself c.key)) e

pub rows_at_place : (key : Bytes) (chains : List Chain) → AreChains chains → rows_of chains key ≡ rows_there key (slice_get chains (keys_below key chains))
rows_at_place key [] h = refl
rows_at_place key (c ∷ cs) h = step (is_below c.key key) refl (rows_at_place key cs h.3)
  where
    step : (b : Bool) → is_below c.key key ≡ b → rows_of cs key ≡ rows_there key (slice_get cs (keys_below key cs)) → rows_of (c ∷ cs) key ≡ rows_there key (slice_get (c ∷ cs) (keys_below key (c ∷ cs)))
    step true e ih = let n = below_not_same c.key key e in rw (n, e) ih
    step false e ih = at_first key c cs h e ∙ sym (ap (λ b. rows_there key (slice_get (c ∷ cs) (cond b (suc (keys_below key cs)) zero))) e)

-- ---- where a look is made

pub absent_past : (key : Bytes) (chains : List Chain) (place : ℕ) → AreChains chains → place ≡ keys_below key chains → length chains ≤ place → [] ≡ rows_of chains key
absent_past key chains place h e l = sym (rows_at_place key chains h ∙ ap (rows_there key) (ap (slice_get chains) (sym e) ∙ slice_get_past chains place l))

pub absent_other : (key : Bytes) (chains : List Chain) (place : ℕ) (chain : Chain) → AreChains chains → place ≡ keys_below key chains → slice_get chains place ≡ Some chain → is_same chain.key key ≡ false → [] ≡ rows_of chains key
absent_other key chains place chain h e g f = sym (rows_at_place key chains h ∙ ap (rows_there key) (ap (slice_get chains) (sym e) ∙ g) ∙ ap (λ b. cond b chain.rows []) f)

pub rows_here : (key : Bytes) (chains : List Chain) (place : ℕ) (chain : Chain) → AreChains chains → place ≡ keys_below key chains → slice_get chains place ≡ Some chain → is_same chain.key key ≡ true → chain.rows ≡ rows_of chains key
rows_here key chains place chain h e g f = sym (rows_at_place key chains h ∙ ap (rows_there key) (ap (slice_get chains) (sym e) ∙ g) ∙ ap (λ b. cond b chain.rows []) f)

pub rows_rise : (key : Bytes) (chains : List Chain) → AreChains chains → AreRising (rows_of chains key)
rows_rise key [] h = tt
rows_rise key (c ∷ cs) h = by_test (is_same c.key key) AreRising c.rows (rows_of cs key) (λ e. h.2) (λ e. rows_rise key cs h.3)

pub value_here : (version : ℕ) (rows : List Row) (place : ℕ) (row : Row) → AreRising rows → place ≡ rows_upto version rows → 0 < place → slice_get rows (place - 1) ≡ Some row → row.value ≡ value_in rows version None
value_here version rows zero row h e p g = absurd (omega arith)
value_here version rows (suc q) row h e p g = let m : suc q - 1 ≡ q = omega arith in sym (value_there version rows q row None h (sym e) (subst (λ i. slice_get rows i ≡ Some row) m g))
