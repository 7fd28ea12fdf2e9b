-- Keys of a range are taken away one after the other.
use Rattle.std.proofs.Common.{◌≡◌, ℕ, zero, suc, ◌<◌, ◌≤◌, Bool, true, false, not, ◌&&◌, cond, List, [], ◌∷◌, length, Option, Some, None, drop, refl, sym, ap, ◌∙◌, subst, arith, is_some}
use Rattle.std.specs.List.{slice_get, slice_set, AllByRecursion}
use Rattle.fb_bytes.specs.Bytes.{Bytes, is_below, is_same}
use Rattle.fb_bytes.specs.declared.KeyRange.{KeyRange}
use Rattle.fb_bytes.specs.Keys.{holds}
use Rattle.fb_bytes.proofs.Order.{not_both, below_trans, below_up, same_eq}
use Rattle.mutations.proofs.Basics.{by_test, all_weaker}
use Rattle.versioned_kv.specs.Chains.{Row, Chain, value_in, rows_of, value_at}
use Rattle.versioned_kv.specs.inner.Chains.{AreRising, AreChains, has_key_below, keys_below}
use Rattle.versioned_kv.specs.Edits.{without_rows, with_rows, without}
use Rattle.versioned_kv.specs.inner.Edits.{put_row, clear_chain, cleared_upto, AreRowsUpto, AreUpto, Extends}
use Rattle.versioned_kv.proofs.Search.{front_upto}
use Rattle.versioned_kv.proofs.Places.{some_at}
use Rattle.versioned_kv.proofs.Values.{later_keys}
use Rattle.versioned_kv.proofs.Puts.{rising_put, upto_put, some_end, without_put_row, value_end}

-- ---- one step

-- the chains before the range are as they were
pub clears_none : (range : KeyRange) (version : ℕ) (place : ℕ) (chains : List Chain) → place ≤ keys_below range.begin chains → cleared_upto place range version chains ≡ chains
clears_none range version zero chains h = refl
clears_none range version (suc place) [] h = refl
clears_none range version (suc place) (c ∷ cs) h = step (is_below c.key range.begin) refl (clears_none range version place cs)
  where
    step : (b : Bool) → is_below c.key range.begin ≡ b → (place ≤ keys_below range.begin cs → cleared_upto place range version cs ≡ cs) → cleared_upto (suc place) range version (c ∷ cs) ≡ c ∷ cs
    step true e ih =
        let l : suc place ≤ suc (keys_below range.begin cs) = subst (λ b. suc place ≤ cond b (suc (keys_below range.begin cs)) zero) e h in
        rw e (ap (λ (xs : List Chain). c ∷ xs) (ih (omega arith)))
    step false e ih =
        let l : suc place ≤ zero = subst (λ b. suc place ≤ cond b (suc (keys_below range.begin cs)) zero) e h in
        absurd (omega arith)

-- the chain at the next place is as it was
pub next_is_there : (range : KeyRange) (version : ℕ) (place : ℕ) (chains : List Chain) → slice_get (cleared_upto place range version chains) place ≡ slice_get chains place
next_is_there range version zero chains = refl
next_is_there range version (suc place) [] = refl
next_is_there range version (suc place) (c ∷ cs) = next_is_there range version place cs

pub clears_next : (range : KeyRange) (version : ℕ) (place : ℕ) (chains : List Chain) (chain : Chain) → slice_get chains place ≡ Some chain → holds range chain.key ≡ true → slice_set (cleared_upto place range version chains) place (clear_chain version chain) ≡ cleared_upto (suc place) range version chains
clears_next range version zero [] chain g h = cc
clears_next range version zero (c ∷ cs) chain g h =
    let same : c ≡ chain = cc in
    let t : holds range c.key ≡ true = ap (λ (x : Chain). holds range x.key) same ∙ h in
    rw t (ap (λ (x : Chain). clear_chain version x ∷ cs) (sym same))
clears_next range version (suc place) [] chain g h = cc
clears_next range version (suc place) (c ∷ cs) chain g h = ap (λ (xs : List Chain). cond (holds range c.key) (clear_chain version c) c ∷ xs) (clears_next range version place cs chain g h)

-- ---- where the range's places are

pub at_or_past : (key : Bytes) (chains : List Chain) (place : ℕ) (chain : Chain) → AreChains chains → keys_below key chains ≤ place → slice_get chains place ≡ Some chain → is_below chain.key key ≡ false
at_or_past key [] place chain h l g = cc
at_or_past key (c ∷ cs) place chain h l g = step (is_below c.key key) refl place l g (at_or_past key cs)
  where
    all_at : (P : Chain → Type 0) (xs : List Chain) (i : ℕ) (x : Chain) → slice_get xs i ≡ Some x → AllByRecursion P xs → P x
    all_at P (y ∷ ys) zero x h a = let e : y ≡ x = cc in subst P e a.0
    all_at P (y ∷ ys) (suc i) x h a = all_at P ys i x h a.1
    all_at P [] i x h a = cc

    past : is_below c.key key ≡ false → (d : Chain) → is_below c.key d.key ≡ true → is_below d.key key ≡ false
    past e d w = go (is_below d.key key) refl
      where
        go : (b : Bool) → is_below d.key key ≡ b → is_below d.key key ≡ false
        go true t = not_both (below_trans c.key d.key key w t) e
        go false t = t

    step : (b : Bool) → is_below c.key key ≡ b → (place : ℕ) → keys_below key (c ∷ cs) ≤ place → slice_get (c ∷ cs) place ≡ Some chain → ((place : ℕ) (chain : Chain) → AreChains cs → keys_below key cs ≤ place → slice_get cs place ≡ Some chain → is_below chain.key key ≡ false) → is_below chain.key key ≡ false
    step true e zero l g ih = let m : suc (keys_below key cs) ≤ zero = subst (λ b. cond b (suc (keys_below key cs)) zero ≤ zero) e l in absurd (omega arith)
    step true e (suc place) l g ih = let m : suc (keys_below key cs) ≤ suc place = subst (λ b. cond b (suc (keys_below key cs)) zero ≤ suc place) e l in ih place chain h.3 (omega arith) g
    step false e zero l g ih = let same : c ≡ chain = cc in ap (λ (x : Chain). is_below x.key key) (sym same) ∙ e
    step false e (suc place) l g ih = past e chain (all_at (λ (d : Chain). is_below c.key d.key ≡ true) cs place chain g h.0)

pub before : (key : Bytes) (chains : List Chain) (place : ℕ) (chain : Chain) → place < keys_below key chains → slice_get chains place ≡ Some chain → is_below chain.key key ≡ true
before key [] place chain l g = cc
before key (c ∷ cs) place chain l g = step (is_below c.key key) refl place l g (before key cs)
  where
    step : (b : Bool) → is_below c.key key ≡ b → (place : ℕ) → place < keys_below key (c ∷ cs) → slice_get (c ∷ cs) place ≡ Some chain → ((place : ℕ) (chain : Chain) → place < keys_below key cs → slice_get cs place ≡ Some chain → is_below chain.key key ≡ true) → is_below chain.key key ≡ true
    step true e zero l g ih = let same : c ≡ chain = cc in ap (λ (x : Chain). is_below x.key key) (sym same) ∙ e
    step true e (suc place) l g ih = let m : suc place < suc (keys_below key cs) = subst (λ b. suc place < cond b (suc (keys_below key cs)) zero) e l in ih place chain (omega arith) g
    step false e place l g ih = let m : place < zero = subst (λ b. place < cond b (suc (keys_below key cs)) zero) e l in absurd (omega arith)

pub range_has : (range : KeyRange) (chains : List Chain) (place : ℕ) (chain : Chain) → AreChains chains → keys_below range.begin chains ≤ place → place < keys_below range.end chains → slice_get chains place ≡ Some chain → holds range chain.key ≡ true
range_has range chains place chain h l m g =
    let a = at_or_past range.begin chains place chain h l g in
    let b = before range.end chains place chain m g in
    rw (a, b) refl

-- ---- what the keys have then

clear_rows : (version : ℕ) (chain : Chain) → value_in (clear_chain version chain).rows version None ≡ None
clear_rows version chain = go (is_some (value_in chain.rows version None)) refl
  where
    none : (o : Option Bytes) → is_some o ≡ false → o ≡ None
    none None e = refl
    none (Some x) e = not_both refl e

    go : (b : Bool) → is_some (value_in chain.rows version None) ≡ b → value_in (clear_chain version chain).rows version None ≡ None
    go true e = rw e (value_end (without_rows version chain.rows) (record { version = version; value = None }) version None (omega arith))
    go false e = rw e (none (value_in chain.rows version None) e)

-- what lies at or past the end of the range is as it was
abbrev pub AreFrom : Bytes → List Chain → Type 0
AreFrom key chains = AllByRecursion (λ (c : Chain). is_below c.key key ≡ false) chains

past_end : (range : KeyRange) (k : Bytes) (chains : List Chain) → AreFrom range.end chains → holds range k ≡ true → rows_of chains k ≡ []
past_end range k chains f h = later_keys k chains (all_weaker (λ (c : Chain). is_below c.key range.end ≡ false) (λ (c : Chain). is_below k c.key ≡ true) (λ c e. below_up k c.key range.end (right (not (is_below k range.begin)) (is_below k range.end) h) e) chains f)
  where
    right : (a b : Bool) → (a && b) ≡ true → b ≡ true
    right true b e = e
    right false b e = not_both e refl

value_cleared : (range : KeyRange) (version : ℕ) (place : ℕ) (chains : List Chain) (k : Bytes) → AreFrom range.end (drop place chains) → value_at (cleared_upto place range version chains) k version ≡ cond (holds range k) None (value_at chains k version)
value_cleared range version zero chains k f = go (holds range k) refl
  where
    go : (b : Bool) → holds range k ≡ b → value_at chains k version ≡ cond b None (value_at chains k version)
    go true e = ap (λ (rs : List Row). value_in rs version None) (past_end range k chains f e)
    go false e = refl
value_cleared range version (suc place) [] k f = go (holds range k)
  where
    go : (b : Bool) → value_at [] k version ≡ cond b None (value_at [] k version)
    go true = refl
    go false = refl
value_cleared range version (suc place) (c ∷ cs) k f = step (holds range c.key) refl (is_same c.key k) refl (value_cleared range version place cs k f)
  where
    step : (b : Bool) → holds range c.key ≡ b → (s : Bool) → is_same c.key k ≡ s → value_at (cleared_upto place range version cs) k version ≡ cond (holds range k) None (value_at cs k version) → value_at (cleared_upto (suc place) range version (c ∷ cs)) k version ≡ cond (holds range k) None (value_at (c ∷ cs) k version)
    step true e true p ih =
        let t : holds range k ≡ true = subst (λ z. holds range z ≡ true) (same_eq c.key k p) e in
        let q : is_same (clear_chain version c).key k ≡ true = key_stays ∙ p in
        rw (e, t, q) (clear_rows version c)
      where
        key_stays : is_same (clear_chain version c).key k ≡ is_same c.key k
        key_stays = by_test (is_some (value_in c.rows version None)) (λ (x : Chain). is_same x.key k ≡ is_same c.key k) (record { key = c.key; rows = put_row (record { version = version; value = None }) c.rows }) c (λ w. refl) (λ w. refl)
    step true e false p ih =
        let q : is_same (clear_chain version c).key k ≡ false = by_test (is_some (value_in c.rows version None)) (λ (x : Chain). is_same x.key k ≡ false) (record { key = c.key; rows = put_row (record { version = version; value = None }) c.rows }) c (λ w. p) (λ w. p) in
        rw (e, q, p) ih
    step false e true p ih =
        let t : holds range k ≡ false = subst (λ z. holds range z ≡ false) (same_eq c.key k p) e in
        rw (e, t, p) refl
    step false e false p ih = rw (e, p) ih

pub from_drop : (key : Bytes) (chains : List Chain) (place : ℕ) → AreChains chains → keys_below key chains ≤ place → AreFrom key (drop place chains)
from_drop key [] place h l = none place
  where
    none : (place : ℕ) → AreFrom key (drop place [])
    none zero = tt
    none (suc place) = tt
from_drop key (c ∷ cs) zero h l = (first, all_weaker (λ (d : Chain). is_below c.key d.key ≡ true) (λ (d : Chain). is_below d.key key ≡ false) past cs h.0)
  where
    first : is_below c.key key ≡ false
    first = go (is_below c.key key) refl
      where
        go : (b : Bool) → is_below c.key key ≡ b → is_below c.key key ≡ false
        go true e = let m : suc (keys_below key cs) ≤ zero = subst (λ b. cond b (suc (keys_below key cs)) zero ≤ zero) e l in absurd (omega arith)
        go false e = e

    past : (d : Chain) → is_below c.key d.key ≡ true → is_below d.key key ≡ false
    past d w = go (is_below d.key key) refl
      where
        go : (b : Bool) → is_below d.key key ≡ b → is_below d.key key ≡ false
        go true t = not_both (below_trans c.key d.key key w t) first
        go false t = t
from_drop key (c ∷ cs) (suc place) h l = from_drop key cs place h.3 (shorter (is_below c.key key) refl)
  where
    rest_none : (xs : List Chain) → AllByRecursion (λ (d : Chain). is_below c.key d.key ≡ true) xs → is_below c.key key ≡ false → keys_below key xs ≤ place
    rest_none [] a e = omega arith
    rest_none (d ∷ ds) a e = by_test (is_below d.key key) (λ n. n ≤ place) (suc (keys_below key ds)) zero (λ t. not_both (below_trans c.key d.key key a.0 t) e) (λ t. omega arith)

    shorter : (b : Bool) → is_below c.key key ≡ b → keys_below key cs ≤ place
    shorter true e = let m : suc (keys_below key cs) ≤ suc place = subst (λ b. cond b (suc (keys_below key cs)) zero ≤ suc place) e l in omega arith
    shorter false e = rest_none cs h.0 e

pub value_clear : (range : KeyRange) (version : ℕ) (place : ℕ) (chains : List Chain) (k : Bytes) → AreChains chains → keys_below range.end chains ≤ place → value_at (cleared_upto place range version chains) k version ≡ cond (holds range k) None (value_at chains k version)
value_clear range version place chains k h l = value_cleared range version place chains k (from_drop range.end chains place h l)

-- ---- they stay in order, and other versions stay

all_cleared : (P : Bytes → Type 0) (range : KeyRange) (version : ℕ) (place : ℕ) (chains : List Chain) → AllByRecursion (λ (c : Chain). P c.key) chains → AllByRecursion (λ (c : Chain). P c.key) (cleared_upto place range version chains)
all_cleared P range version zero chains h = h
all_cleared P range version (suc place) [] h = tt
all_cleared P range version (suc place) (c ∷ cs) h = (
  by_test (holds range c.key) (λ (x : Chain). P x.key) (clear_chain version c) c (λ e. by_test (is_some (value_in c.rows version None)) (λ (x : Chain). P x.key) (record { key = c.key; rows = put_row (record { version = version; value = None }) c.rows }) c (λ f. h.0) (λ f. h.0)) (λ e. h.0),
  all_cleared P range version place cs h.1,
)

-- a chain that is cleared, or isn't
abbrev Kept : ℕ → Chain → Chain → Type 0
Kept version c d = (d.key ≡ c.key) × (0 < length d.rows) × AreRising d.rows × AreRowsUpto version d.rows × (without_rows version d.rows ≡ without_rows version c.rows)

kept : (version : ℕ) (c : Chain) (b : Bool) → 0 < length c.rows → AreRising c.rows → AreRowsUpto version c.rows → Kept version c (cond b (clear_chain version c) c)
kept version c false s h u = (refl, s, h, u, refl)
kept version c true s h u = by_test (is_some (value_in c.rows version None)) (Kept version c) (record { key = c.key; rows = put_row (record { version = version; value = None }) c.rows }) c
    (λ e. (refl, some_end (without_rows version c.rows) (record { version = version; value = None }), rising_put (record { version = version; value = None }) c.rows h u, upto_put (record { version = version; value = None }) c.rows u, without_put_row (record { version = version; value = None }) c.rows u))
    (λ e. (refl, s, h, u, refl))

pub clear_extends : (range : KeyRange) (version : ℕ) (place : ℕ) (chains : List Chain) → AreChains chains → AreUpto version chains → Extends version chains (cleared_upto place range version chains)
clear_extends range version zero chains h u = record { chains = h; upto = u; same = refl }
clear_extends range version (suc place) [] h u = record { chains = tt; upto = tt; same = refl }
clear_extends range version (suc place) (c ∷ cs) h u =
    let k = kept version c (holds range c.key) h.1 h.2 u.0 in
    let rest = clear_extends range version place cs h.3 u.1 in
    let d : Chain = cond (holds range c.key) (clear_chain version c) c in
    record {
      chains = (subst (λ z. AllByRecursion (λ (x : Chain). is_below z x.key ≡ true) (cleared_upto place range version cs)) (sym k.0) (all_cleared (λ z. is_below c.key z ≡ true) range version place cs h.0), k.1, k.2, rest.chains);
      upto = (k.3, rest.upto);
      same = ap (λ z. with_rows z (without_rows version d.rows) (without version (cleared_upto place range version cs))) k.0 ∙ ap (λ (rs : List Row). with_rows c.key rs (without version (cleared_upto place range version cs))) k.4 ∙ ap (with_rows c.key (without_rows version c.rows)) rest.same;
    }

cleared_len : (range : KeyRange) (version : ℕ) (place : ℕ) (chains : List Chain) → length (cleared_upto place range version chains) ≡ length chains
cleared_len range version zero chains = refl
cleared_len range version (suc place) [] = refl
cleared_len range version (suc place) (c ∷ cs) = ap suc (cleared_len range version place cs)

-- ---- a step of the loop

pub clear_within : (range : KeyRange) (version : ℕ) (place : ℕ) (chains self : List Chain) → place < keys_below range.end chains → self ≡ cleared_upto place range version chains → place < length self
clear_within range version place chains self l e = let n = ap length e ∙ cleared_len range version place chains in let u = front_upto (has_key_below range.end) chains in omega arith

pub clear_step : (range : KeyRange) (version : ℕ) (place : ℕ) (chains self new : List Chain) → AreChains chains → keys_below range.begin chains ≤ place → place < keys_below range.end chains → self ≡ cleared_upto place range version chains → ((chain : Chain) → slice_get self place ≡ Some chain → new ≡ slice_set self place (clear_chain version chain)) → new ≡ cleared_upto (suc place) range version chains
clear_step range version place chains self new h l m e f =
    let u = front_upto (has_key_below range.end) chains in
    let at = some_at chains place (omega arith) in
    let here : slice_get self place ≡ Some at.0 = ap (λ (xs : List Chain). slice_get xs place) e ∙ next_is_there range version place chains ∙ at.1 in
    f at.0 here ∙ ap (λ (xs : List Chain). slice_set xs place (clear_chain version at.0)) e ∙ clears_next range version place chains at.0 at.1 (range_has range chains place at.0 h l m at.1)
