-- The pairs of a range, chain by chain.
use Rattle.std.proofs.Common.{◌≡◌, ℕ, zero, suc, ◌+◌, ◌<◌, ◌≤◌, Bool, true, false, not, ◌&&◌, cond, List, [], ◌∷◌, ◌++◌, length, Option, Some, None, take, drop, inl, inr, ◌⊎◌, refl, sym, ap, ◌∙◌, subst, arith, is_some}
use Rattle.std.specs.List.{slice_get, AllByRecursion}
use Rattle.fb_bytes.specs.Bytes.{Bytes, is_below, is_same}
use Rattle.fb_bytes.specs.declared.KeyRange.{KeyRange}
use Rattle.fb_bytes.specs.Keys.{holds}
use Rattle.fb_bytes.specs.declared.Pair.{Pair}
use Rattle.fb_bytes.specs.Pairs.{value_of, KeyPast, AreRising}
use Rattle.fb_bytes.proofs.Order.{not_both, below_trans, below_down, same_eq, same_itself, below_itself}
use Rattle.mutations.proofs.Basics.{by_test}
use Rattle.versioned_kv.specs.Chains.{Row, Chain, value_in, rows_of, value_at}
use Rattle.versioned_kv.specs.inner.Chains.{AreChains, keys_below}
use Rattle.versioned_kv.specs.Pages.{IsPage, IsNext}
use Rattle.versioned_kv.specs.inner.Pages.{pair_of, pairs_in, range_upto, IsPart}
use Rattle.versioned_kv.proofs.Values.{later_keys, rows_here}
use Rattle.versioned_kv.proofs.Clears.{AreFrom, from_drop, at_or_past, range_has}

-- the pairs of the first so many chains that aren't before the begin
abbrev pub pairs_upto : ℕ → Bytes → ℕ → List Chain → List Pair
pairs_upto zero begin version chains = []
pairs_upto (suc place) begin version [] = []
pairs_upto (suc place) begin version (chain ∷ chains) = cond (is_below chain.key begin) [] (pair_of chain.key (value_in chain.rows version None)) ++ pairs_upto place begin version chains

pub pairs_none : (place : ℕ) (begin : Bytes) (version : ℕ) (chains : List Chain) → place ≤ keys_below begin chains → pairs_upto place begin version chains ≡ []
pairs_none zero begin version chains l = refl
pairs_none (suc place) begin version [] l = refl
pairs_none (suc place) begin version (c ∷ cs) l = step (is_below c.key begin) refl (pairs_none place begin version cs)
  where
    step : (b : Bool) → is_below c.key begin ≡ b → (place ≤ keys_below begin cs → pairs_upto place begin version cs ≡ []) → pairs_upto (suc place) begin version (c ∷ cs) ≡ []
    step true e ih = let m : suc place ≤ suc (keys_below begin cs) = subst (λ b. suc place ≤ cond b (suc (keys_below begin cs)) zero) e l in rw e (ih (omega arith))
    step false e ih = let m : suc place ≤ zero = subst (λ b. suc place ≤ cond b (suc (keys_below begin cs)) zero) e l in absurd (omega arith)

pub append_none : (xs : List Pair) → xs ++ [] ≡ xs
append_none [] = refl
append_none (x ∷ xs) = ap (λ (ys : List Pair). x ∷ ys) (append_none xs)

append_assoc : (xs ys zs : List Pair) → (xs ++ ys) ++ zs ≡ xs ++ (ys ++ zs)
append_assoc [] ys zs = refl
append_assoc (x ∷ xs) ys zs = ap (λ (ws : List Pair). x ∷ ws) (append_assoc xs ys zs)

pub pairs_next : (place : ℕ) (begin : Bytes) (version : ℕ) (chains : List Chain) (chain : Chain) → slice_get chains place ≡ Some chain → is_below chain.key begin ≡ false → pairs_upto (suc place) begin version chains ≡ pairs_upto place begin version chains ++ pair_of chain.key (value_in chain.rows version None)
pairs_next zero begin version [] chain g f = cc
pairs_next (suc place) begin version [] chain g f = cc
pairs_next zero begin version (c ∷ cs) chain g f =
    let same : c ≡ chain = cc in
    let t : is_below c.key begin ≡ false = ap (λ (x : Chain). is_below x.key begin) same ∙ f in
    rw t (append_none (pair_of c.key (value_in c.rows version None)) ∙ ap (λ (x : Chain). pair_of x.key (value_in x.rows version None)) same)
pairs_next (suc place) begin version (c ∷ cs) chain g f =
    ap (λ (ps : List Pair). cond (is_below c.key begin) [] (pair_of c.key (value_in c.rows version None)) ++ ps) (pairs_next place begin version cs chain g f)
    ∙ sym (append_assoc (cond (is_below c.key begin) [] (pair_of c.key (value_in c.rows version None))) (pairs_upto place begin version cs) (pair_of chain.key (value_in chain.rows version None)))

-- ---- the keys rise

past_with : (key k : Bytes) (o : Option Bytes) (rest : List Pair) → is_below key k ≡ true → KeyPast key rest → KeyPast key (pair_of k o ++ rest)
past_with key k None rest e h = h
past_with key k (Some v) rest e h = e

rise_with : (k : Bytes) (o : Option Bytes) (rest : List Pair) → KeyPast k rest → AreRising rest → AreRising (pair_of k o ++ rest)
rise_with k None rest p h = h
rise_with k (Some v) rest p h = (p, h)

past_all : (key : Bytes) (place : ℕ) (begin : Bytes) (version : ℕ) (chains : List Chain) → AllByRecursion (λ (c : Chain). is_below key c.key ≡ true) chains → KeyPast key (pairs_upto place begin version chains)
past_all key zero begin version chains h = tt
past_all key (suc place) begin version [] h = tt
past_all key (suc place) begin version (c ∷ cs) h = by_test (is_below c.key begin) (λ (ps : List Pair). KeyPast key (ps ++ pairs_upto place begin version cs)) [] (pair_of c.key (value_in c.rows version None)) (λ e. past_all key place begin version cs h.1) (λ e. past_with key c.key (value_in c.rows version None) (pairs_upto place begin version cs) h.0 (past_all key place begin version cs h.1))

pub pairs_rise : (place : ℕ) (begin : Bytes) (version : ℕ) (chains : List Chain) → AreChains chains → AreRising (pairs_upto place begin version chains)
pairs_rise zero begin version chains h = tt
pairs_rise (suc place) begin version [] h = tt
pairs_rise (suc place) begin version (c ∷ cs) h = by_test (is_below c.key begin) (λ (ps : List Pair). AreRising (ps ++ pairs_upto place begin version cs)) [] (pair_of c.key (value_in c.rows version None)) (λ e. pairs_rise place begin version cs h.3) (λ e. rise_with c.key (value_in c.rows version None) (pairs_upto place begin version cs) (past_all c.key place begin version cs h.0) (pairs_rise place begin version cs h.3))

-- ---- those of a range

-- the pairs of chains that are all past the range
pub none_behind : (range : KeyRange) (version : ℕ) (chains : List Chain) → AreFrom range.end chains → pairs_in range version chains ≡ []
none_behind range version [] h = refl
none_behind range version (c ∷ cs) h =
    let out : holds range c.key ≡ false = right (not (is_below c.key range.begin)) (is_below c.key range.end) h.0 in
    rw out (none_behind range version cs h.1)
  where
    right : (a b : Bool) → b ≡ false → (a && b) ≡ false
    right false b f = refl
    right true b f = f

pub none_before : (range : KeyRange) (version : ℕ) (chains : List Chain) → AllByRecursion (λ (c : Chain). is_below c.key range.begin ≡ true) chains → pairs_in range version chains ≡ []
none_before range version [] h = refl
none_before range version (c ∷ cs) h = let e : is_below c.key range.begin ≡ true = h.0 in rw e (none_before range version cs h.1)

none_held : (range : KeyRange) (version : ℕ) (chains : List Chain) → ((key : Bytes) → holds range key ≡ false) → pairs_in range version chains ≡ []
none_held range version [] f = refl
none_held range version (c ∷ cs) f = let e = f c.key in rw e (none_held range version cs f)

upto_in : (place : ℕ) (range : KeyRange) (version : ℕ) (chains : List Chain) → AllByRecursion (λ (c : Chain). is_below c.key range.end ≡ true) (take place chains) → AreFrom range.end (drop place chains) → pairs_upto place range.begin version chains ≡ pairs_in range version chains
upto_in zero range version [] a b = refl
upto_in zero range version (c ∷ cs) a b = sym (none_behind range version (c ∷ cs) b)
upto_in (suc place) range version [] a b = refl
upto_in (suc place) range version (c ∷ cs) a b = step (is_below c.key range.begin) refl (upto_in place range version cs a.1 b)
  where
    step : (t : Bool) → is_below c.key range.begin ≡ t → pairs_upto place range.begin version cs ≡ pairs_in range version cs → pairs_upto (suc place) range.begin version (c ∷ cs) ≡ pairs_in range version (c ∷ cs)
    step true e ih = rw e ih
    step false e ih = let m = a.0 in rw (e, m) (ap (λ (ps : List Pair). pair_of c.key (value_in c.rows version None) ++ ps) ih)

past_in : (key : Bytes) (range : KeyRange) (version : ℕ) (chains : List Chain) → AllByRecursion (λ (c : Chain). is_below key c.key ≡ true) chains → KeyPast key (pairs_in range version chains)
past_in key range version [] h = tt
past_in key range version (c ∷ cs) h = by_test (holds range c.key) (λ (ps : List Pair). KeyPast key (ps ++ pairs_in range version cs)) (pair_of c.key (value_in c.rows version None)) [] (λ e. past_with key c.key (value_in c.rows version None) (pairs_in range version cs) h.0 (past_in key range version cs h.1)) (λ e. past_in key range version cs h.1)

pub in_rise : (range : KeyRange) (version : ℕ) (chains : List Chain) → AreChains chains → AreRising (pairs_in range version chains)
in_rise range version [] h = tt
in_rise range version (c ∷ cs) h = by_test (holds range c.key) (λ (ps : List Pair). AreRising (ps ++ pairs_in range version cs)) (pair_of c.key (value_in c.rows version None)) [] (λ e. rise_with c.key (value_in c.rows version None) (pairs_in range version cs) (past_in c.key range version cs h.0) (in_rise range version cs h.3)) (λ e. in_rise range version cs h.3)

pub in_both : (range : KeyRange) (version : ℕ) (xs ys : List Chain) → pairs_in range version (xs ++ ys) ≡ pairs_in range version xs ++ pairs_in range version ys
in_both range version [] ys = refl
in_both range version (x ∷ xs) ys =
    let here : List Pair = cond (holds range x.key) (pair_of x.key (value_in x.rows version None)) [] in
    ap (λ (ps : List Pair). here ++ ps) (in_both range version xs ys) ∙ sym (append_assoc here (pairs_in range version xs) (pairs_in range version ys))

-- ---- what they tell

pub in_tell : (range : KeyRange) (version : ℕ) (chains : List Chain) (key : Bytes) → AreChains chains → value_of (pairs_in range version chains) key ≡ cond (holds range key) (value_at chains key version) None
in_tell range version [] key h = go (holds range key)
  where
    go : (t : Bool) → value_of [] key ≡ cond t (value_at [] key version) None
    go true = refl
    go false = refl
in_tell range version (c ∷ cs) key h = step (is_same c.key key) refl (holds range c.key) refl (value_in c.rows version None) refl (in_tell range version cs key h.3)
  where
    step : (s : Bool) → is_same c.key key ≡ s → (t : Bool) → holds range c.key ≡ t → (o : Option Bytes) → value_in c.rows version None ≡ o → value_of (pairs_in range version cs) key ≡ cond (holds range key) (value_at cs key version) None → value_of (pairs_in range version (c ∷ cs)) key ≡ cond (holds range key) (value_at (c ∷ cs) key version) None
    -- another key
    step false s false t o e ih = rw (s, t) ih
    step false s true t None e ih = rw (s, t, e) ih
    step false s true t (Some v) e ih = rw (t, e, s) ih
    -- this key
    step true s false t o e ih =
        let out : holds range key ≡ false = subst (λ z. holds range z ≡ false) (same_eq c.key key s) t in
        rw (t, out) (ih ∙ ap (λ z. cond z (value_at cs key version) None) out)
    step true s true t (Some v) e ih =
        let within : holds range key ≡ true = subst (λ z. holds range z ≡ true) (same_eq c.key key s) t in
        rw (t, e, s, within) (sym e)
    step true s true t None e ih =
        let within : holds range key ≡ true = subst (λ z. holds range z ≡ true) (same_eq c.key key s) t in
        let none : rows_of cs key ≡ [] = later_keys key cs (subst (λ z. AllByRecursion (λ (d : Chain). is_below z d.key ≡ true) cs) (same_eq c.key key s) h.0) in
        rw (t, e, s, within) (ih ∙ ap (λ z. cond z (value_at cs key version) None) within ∙ ap (λ (rs : List Row). value_in rs version None) none ∙ sym e)

-- ---- where they end

-- the first so many chains are before a key, where their number is that of the keys below it
pub first_before : (key : Bytes) (place : ℕ) (chains : List Chain) → place ≤ keys_below key chains → AllByRecursion (λ (c : Chain). is_below c.key key ≡ true) (take place chains)
first_before key zero chains l = nil chains
  where
    nil : (xs : List Chain) → AllByRecursion (λ (c : Chain). is_below c.key key ≡ true) (take zero xs)
    nil [] = tt
    nil (x ∷ xs) = tt
first_before key (suc place) [] l = tt
first_before key (suc place) (c ∷ cs) l = step (is_below c.key key) refl (first_before key place cs)
  where
    step : (b : Bool) → is_below c.key key ≡ b → (place ≤ keys_below key cs → AllByRecursion (λ (d : Chain). is_below d.key key ≡ true) (take place cs)) → AllByRecursion (λ (d : Chain). is_below d.key key ≡ true) (take (suc place) (c ∷ cs))
    step true e ih = let m : suc place ≤ suc (keys_below key cs) = subst (λ b. suc place ≤ cond b (suc (keys_below key cs)) zero) e l in (e, ih (omega arith))
    step false e ih = let m : suc place ≤ zero = subst (λ b. suc place ≤ cond b (suc (keys_below key cs)) zero) e l in absurd (omega arith)

-- chains in order: at a chain's place so many keys are below its key
pub place_of_chain : (place : ℕ) (chains : List Chain) (chain : Chain) → AreChains chains → slice_get chains place ≡ Some chain → keys_below chain.key chains ≡ place
place_of_chain place [] chain h g = cc
place_of_chain zero (c ∷ cs) chain h g =
    let same : c ≡ chain = cc in
    let e : is_below c.key chain.key ≡ false = ap (λ (x : Chain). is_below c.key x.key) (sym same) ∙ below_itself c.key in
    rw e refl
place_of_chain (suc place) (c ∷ cs) chain h g =
    let e : is_below c.key chain.key ≡ true = all_at cs place h.0 g in
    rw e (ap suc (place_of_chain place cs chain h.3 g))
  where
    all_at : (xs : List Chain) (i : ℕ) → AllByRecursion (λ (d : Chain). is_below c.key d.key ≡ true) xs → slice_get xs i ≡ Some chain → is_below c.key chain.key ≡ true
    all_at [] i a g = cc
    all_at (y ∷ ys) zero a g = let e : y ≡ chain = cc in subst (λ (x : Chain). is_below c.key x.key ≡ true) e a.0
    all_at (y ∷ ys) (suc i) a g = all_at ys i a.1 g

pub value_of_chain : (place : ℕ) (chains : List Chain) (chain : Chain) (version : ℕ) → AreChains chains → slice_get chains place ≡ Some chain → value_at chains chain.key version ≡ value_in chain.rows version None
value_of_chain place chains chain version h g = ap (λ (rs : List Row). value_in rs version None) (sym (rows_here chain.key chains place chain h (sym (place_of_chain place chains chain h g)) g (same_itself chain.key)))

within_both : (a b c : Bool) → (c ≡ true → b ≡ true) → ((a && b) && c) ≡ (a && c)
within_both false b c f = refl
within_both true b true f = ap (λ t. t && true) (f refl)
within_both true true false f = refl
within_both true false false f = refl

keys_more : (a b : Bytes) (chains : List Chain) → is_below a b ≡ true → keys_below a chains ≤ keys_below b chains
keys_more a b [] l = omega arith
keys_more a b (c ∷ cs) l = step (is_below c.key a) refl (keys_more a b cs l)
  where
    step : (t : Bool) → is_below c.key a ≡ t → keys_below a cs ≤ keys_below b cs → keys_below a (c ∷ cs) ≤ keys_below b (c ∷ cs)
    step true e ih = let f = below_trans c.key a b e l in rw (e, f) (omega arith)
    step false e ih = rw e (omega arith)

no_key : (range : KeyRange) (key : Bytes) → is_below range.begin range.end ≡ false → holds range key ≡ false
no_key range key f = go (is_below key range.begin) refl (is_below key range.end) refl
  where
    go : (a : Bool) → is_below key range.begin ≡ a → (b : Bool) → is_below key range.end ≡ b → holds range key ≡ false
    go true e b q = rw e refl
    go false e false q = rw (e, q) refl
    go false e true q = not_both (below_down range.begin key range.end e q) f

-- the places of the range end at a place
abbrev pub EndsAt : ℕ → KeyRange → List Chain → Type 0
EndsAt place range chains = (place ≤ keys_below range.begin chains) ⊎ (place ≤ keys_below range.end chains)

all_in : (place : ℕ) (range : KeyRange) (version : ℕ) (chains : List Chain) → AreChains chains → keys_below range.end chains ≤ place → EndsAt place range chains → pairs_upto place range.begin version chains ≡ pairs_in range version chains
all_in place range version chains h m (inr n) = upto_in place range version chains (first_before range.end place chains n) (from_drop range.end chains place h m)
all_in place range version chains h m (inl n) = go (is_below range.begin range.end) refl
  where
    go : (b : Bool) → is_below range.begin range.end ≡ b → pairs_upto place range.begin version chains ≡ pairs_in range version chains
    go true e = let k = keys_more range.begin range.end chains e in upto_in place range version chains (first_before range.end place chains (omega arith)) (from_drop range.end chains place h m)
    go false e = pairs_none place range.begin version chains n ∙ sym (none_held range version chains (λ key. no_key range key e))

-- all pairs of the range
pub last_part : (place : ℕ) (range : KeyRange) (version limit : ℕ) (chains : List Chain) (old new : List Pair) → AreChains chains → keys_below range.end chains ≤ place → EndsAt place range chains → new ≡ old ++ pairs_upto place range.begin version chains → length new ≤ limit → IsPart range version limit chains old new None
last_part place range version limit chains old new h m ends e few = record {
  pairs = e ∙ ap (λ (ps : List Pair). old ++ ps) (all_in place range version chains h m ends);
  few = few;
  left = tt;
}

-- the pairs before a chain that has a value
pub full_part : (place : ℕ) (range : KeyRange) (version limit : ℕ) (chains : List Chain) (chain : Chain) (old new : List Pair) → AreChains chains → keys_below range.begin chains ≤ place → place < keys_below range.end chains → slice_get chains place ≡ Some chain → is_some (value_in chain.rows version None) ≡ true → new ≡ old ++ pairs_upto place range.begin version chains → length new ≡ limit → IsPart range version limit chains old new (Some chain.key)
full_part place range version limit chains chain old new h l m g some e full =
    let at = place_of_chain place chains chain h g in
    let part : KeyRange = range_upto range (Some chain.key) in
    record {
      pairs = e ∙ ap (λ (ps : List Pair). old ++ ps) (upto_in place part version chains (first_before chain.key place chains (omega arith)) (from_drop chain.key chains place h (omega arith)));
      few = omega arith;
      left = (range_has range chains place chain h l m g, ap is_some (value_of_chain place chains chain version h g) ∙ some, full);
    }

-- one more chain
pub part_step : (place : ℕ) (range : KeyRange) (version : ℕ) (chains : List Chain) (chain : Chain) (old pairs more : List Pair) (value : Option Bytes) → AreChains chains → keys_below range.begin chains ≤ place → slice_get chains place ≡ Some chain → value ≡ value_in chain.rows version None → pairs ≡ old ++ pairs_upto place range.begin version chains → more ≡ pairs ++ pair_of chain.key value → more ≡ old ++ pairs_upto (suc place) range.begin version chains
part_step place range version chains chain old pairs more value h l g v e f =
    f ∙ ap (λ (ps : List Pair). ps ++ pair_of chain.key value) e ∙ append_assoc old (pairs_upto place range.begin version chains) (pair_of chain.key value)
    ∙ ap (λ o. old ++ (pairs_upto place range.begin version chains ++ pair_of chain.key o)) v
    ∙ ap (λ (ps : List Pair). old ++ ps) (sym (pairs_next place range.begin version chains chain g (at_or_past range.begin chains place chain h l g)))

pub length_end : (pairs : List Pair) (pair : Pair) → length (pairs ++ pair ∷ []) ≡ length pairs + 1
length_end [] pair = refl
length_end (p ∷ ps) pair = let h = length_end ps pair in omega arith

-- ---- the page

and_true : (b : Bool) → (b && true) ≡ b
and_true true = refl
and_true false = refl

-- the page of all pairs of the range
pub last_page : (range : KeyRange) (version limit : ℕ) (chains : List Chain) (pairs : List Pair) → AreChains chains → pairs ≡ pairs_in range version chains → length pairs ≤ limit → IsPage (λ key. value_at chains key version) range limit (record { pairs = pairs; next = None })
last_page range version limit chains pairs h e few = record {
  told = λ key. ap (λ (ps : List Pair). value_of ps key) e ∙ in_tell range version chains key h ∙ ap (λ b. cond b (value_at chains key version) None) (sym (and_true (holds range key)));
  few = few;
  next = tt;
}

-- the page of the pairs before a key
pub full_page : (range : KeyRange) (version limit : ℕ) (chains : List Chain) (pairs : List Pair) (next : Bytes) → AreChains chains → pairs ≡ pairs_in (range_upto range (Some next)) version chains → length pairs ≤ limit → IsNext (λ key. value_at chains key version) range limit pairs (Some next) → IsPage (λ key. value_at chains key version) range limit (record { pairs = pairs; next = Some next })
full_page range version limit chains pairs next h e few left =
    let end : is_below next range.end ≡ true = right (not (is_below next range.begin)) (is_below next range.end) left.0 in
    record {
      told = λ key. ap (λ (ps : List Pair). value_of ps key) e ∙ in_tell (range_upto range (Some next)) version chains key h ∙ ap (λ b. cond b (value_at chains key version) None) (sym (within_both (not (is_below key range.begin)) (is_below key range.end) (is_below key next) (λ k. below_trans key next range.end k end)));
      few = few;
      next = left;
    }
  where
    right : (a b : Bool) → (a && b) ≡ true → b ≡ true
    right true b e = e
    right false b e = not_both e refl
