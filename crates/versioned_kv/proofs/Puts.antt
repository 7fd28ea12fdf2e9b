-- What a row that is put at a key leaves.
use Rattle.std.proofs.Common.{◌≡◌, ℕ, zero, suc, ◌<◌, ◌≤◌, Bool, true, false, cond, List, [], ◌∷◌, ◌++◌, length, Option, Some, None, Result, Ok, Err, OnOk, OnErr, ⊎_elim, refl, sym, ap, ◌∙◌, subst, arith, nat_eq, nat_le}
use Rattle.std.specs.List.{slice_get, slice_set, insert, AllByRecursion}
use Rattle.std.proofs.lemmas.Bool.{cases_eq, cases_order, eq-eqb, ne_eqb, le-leb, lt-leb}
use Rattle.fb_bytes.specs.Bytes.{Bytes, is_below, is_same}
use Rattle.fb_bytes.proofs.Order.{not_both, below_trans, below_itself, same_eq, same_itself, neither_below}
use Rattle.mutations.proofs.Basics.{by_test, all_weaker}
use Rattle.versioned_kv.specs.Chains.{Row, Chain, value_in, rows_of, value_at}
use Rattle.versioned_kv.specs.inner.Chains.{AreRising, AreChains, keys_below}
use Rattle.versioned_kv.specs.Edits.{without_rows, with_rows, without}
use Rattle.versioned_kv.specs.inner.Edits.{put_row, put_at, is_chain_of, AreRowsUpto, AreUpto, Extends}
use Rattle.versioned_kv.proofs.Lists.{AreRowsBelow}
use Rattle.versioned_kv.proofs.Values.{later_keys}

-- ---- rows

pub all_without : (P : Row → Type 0) (version : ℕ) (rows : List Row) → AllByRecursion P rows → AllByRecursion P (without_rows version rows)
all_without P version [] h = tt
all_without P version (r ∷ rs) h = by_test (nat_eq r.version version) (AllByRecursion P) (without_rows version rs) (r ∷ without_rows version rs) (λ e. all_without P version rs h.1) (λ e. (h.0, all_without P version rs h.1))

pub rising_without : (version : ℕ) (rows : List Row) → AreRising rows → AreRising (without_rows version rows)
rising_without version [] h = tt
rising_without version (r ∷ rs) h = by_test (nat_eq r.version version) AreRising (without_rows version rs) (r ∷ without_rows version rs) (λ e. rising_without version rs h.1) (λ e. (all_without (λ (s : Row). r.version < s.version) version rs h.0, rising_without version rs h.1))

pub below_without : (version : ℕ) (rows : List Row) → AreRowsUpto version rows → AreRowsBelow version (without_rows version rows)
below_without version [] h = tt
below_without version (r ∷ rs) h = ⊎_elim
    (λ q. let t = eq-eqb r.version version q in rw t (below_without version rs h.1))
    (λ q. let t = ne_eqb r.version version q in let l : r.version ≤ version = h.0 in let b : r.version < version = ⊎_elim (λ s. absurd (q s)) (λ s. ⊎_elim (λ x. x) (λ x. absurd (omega arith)) s) (cases_order r.version version) in rw t (b, below_without version rs h.1))
    (cases_eq r.version version)

pub all_end : (P : Row → Type 0) (rows : List Row) (row : Row) → AllByRecursion P rows → P row → AllByRecursion P (rows ++ row ∷ [])
all_end P [] row h p = (p, tt)
all_end P (r ∷ rs) row h p = (h.0, all_end P rs row h.1 p)

rising_end : (rows : List Row) (row : Row) → AreRising rows → AreRowsBelow row.version rows → AreRising (rows ++ row ∷ [])
rising_end [] row h b = (tt, tt)
rising_end (r ∷ rs) row h b = (all_end (λ (s : Row). r.version < s.version) rs row h.0 b.0, rising_end rs row h.1 b.1)

pub rising_put : (row : Row) (rows : List Row) → AreRising rows → AreRowsUpto row.version rows → AreRising (put_row row rows)
rising_put row rows h u = rising_end (without_rows row.version rows) row (rising_without row.version rows h) (below_without row.version rows u)

pub upto_put : (row : Row) (rows : List Row) → AreRowsUpto row.version rows → AreRowsUpto row.version (put_row row rows)
upto_put row rows u = all_end (λ (s : Row). s.version ≤ row.version) (without_rows row.version rows) row (all_without (λ (s : Row). s.version ≤ row.version) row.version rows u) (omega arith)

pub some_end : (rows : List Row) (row : Row) → 0 < length (rows ++ row ∷ [])
some_end [] row = omega arith
some_end (r ∷ rs) row = omega arith

without_end : (rows : List Row) (row : Row) → AreRowsBelow row.version rows → without_rows row.version (rows ++ row ∷ []) ≡ rows
without_end [] row b = let t = eq-eqb row.version row.version refl in rw t refl
without_end (r ∷ rs) row b = let t = ne_eqb r.version row.version (λ q. let l = b.0 in omega arith) in rw t (ap (λ (xs : List Row). r ∷ xs) (without_end rs row b.1))

pub without_put_row : (row : Row) (rows : List Row) → AreRowsUpto row.version rows → without_rows row.version (put_row row rows) ≡ without_rows row.version rows
without_put_row row rows u = without_end (without_rows row.version rows) row (below_without row.version rows u)

pub value_end : (rows : List Row) (row : Row) (version : ℕ) (before : Option Bytes) → row.version ≤ version → value_in (rows ++ row ∷ []) version before ≡ row.value
value_end [] row version before l = let t = le-leb row.version version l in rw t refl
value_end (r ∷ rs) row version before l = value_end rs row version (cond (nat_le r.version version) r.value before) l

-- ---- at a place

set_there : (key : Bytes) (row : Row) (chains : List Chain) (chain : Chain) → slice_get chains (keys_below key chains) ≡ Some chain → is_same chain.key key ≡ true → slice_set chains (keys_below key chains) (record { key = chain.key; rows = put_row row chain.rows }) ≡ put_at key row chains
set_there key row [] chain g f = cc
set_there key row (x ∷ xs) chain g f = step (is_below x.key key) refl (λ h. set_there key row xs chain h f)
  where
    new : Chain
    new = record { key = chain.key; rows = put_row row chain.rows }

    step : (b : Bool) → is_below x.key key ≡ b → (slice_get xs (keys_below key xs) ≡ Some chain → slice_set xs (keys_below key xs) (record { key = chain.key; rows = put_row row chain.rows }) ≡ put_at key row xs) → slice_set (x ∷ xs) (keys_below key (x ∷ xs)) (record { key = chain.key; rows = put_row row chain.rows }) ≡ put_at key row (x ∷ xs)
    step true e ih =
        let g' : slice_get xs (keys_below key xs) ≡ Some chain = subst (λ b. slice_get (x ∷ xs) (cond b (suc (keys_below key xs)) zero) ≡ Some chain) e g in
        rw e (ap (λ (cs : List Chain). x ∷ cs) (ih g'))
    step false e ih =
        let g' : Some x ≡ Some chain = subst (λ b. slice_get (x ∷ xs) (cond b (suc (keys_below key xs)) zero) ≡ Some chain) e g in
        let same : x ≡ chain = cc in
        let t : is_same x.key key ≡ true = ap (λ (c : Chain). is_same c.key key) same ∙ f in
        rw (e, t) (ap (λ (c : Chain). record { key = c.key; rows = put_row row c.rows } ∷ xs) (sym same))

insert_there : (key : Bytes) (row : Row) (chains : List Chain) → is_chain_of key (slice_get chains (keys_below key chains)) ≡ false → insert chains (keys_below key chains) (record { key = key; rows = row ∷ [] }) ≡ put_at key row chains
insert_there key row [] f = refl
insert_there key row (x ∷ xs) f = step (is_below x.key key) refl (insert_there key row xs)
  where
    step : (b : Bool) → is_below x.key key ≡ b → (is_chain_of key (slice_get xs (keys_below key xs)) ≡ false → insert xs (keys_below key xs) (record { key = key; rows = row ∷ [] }) ≡ put_at key row xs) → insert (x ∷ xs) (keys_below key (x ∷ xs)) (record { key = key; rows = row ∷ [] }) ≡ put_at key row (x ∷ xs)
    step true e ih =
        let f' : is_chain_of key (slice_get xs (keys_below key xs)) ≡ false = subst (λ b. is_chain_of key (slice_get (x ∷ xs) (cond b (suc (keys_below key xs)) zero)) ≡ false) e f in
        rw e (ap (λ (cs : List Chain). x ∷ cs) (ih f'))
    step false e ih =
        let f' : is_same x.key key ≡ false = subst (λ b. is_chain_of key (slice_get (x ∷ xs) (cond b (suc (keys_below key xs)) zero)) ≡ false) e f in
        rw (e, f') refl

pub set_here : (key : Bytes) (row : Row) (chains : List Chain) (place : ℕ) (chain : Chain) → place ≡ keys_below key chains → slice_get chains place ≡ Some chain → is_same chain.key key ≡ true → slice_set chains place (record { key = chain.key; rows = put_row row chain.rows }) ≡ put_at key row chains
set_here key row chains place chain e g f = ap (λ i. slice_set chains i (record { key = chain.key; rows = put_row row chain.rows })) e ∙ set_there key row chains chain (ap (slice_get chains) (sym e) ∙ g) f

pub insert_here : (key : Bytes) (row : Row) (chains : List Chain) (place : ℕ) → place ≡ keys_below key chains → is_chain_of key (slice_get chains place) ≡ false → insert chains place (record { key = key; rows = row ∷ [] }) ≡ put_at key row chains
insert_here key row chains place e f = ap (λ i. insert chains i (record { key = key; rows = row ∷ [] })) e ∙ insert_there key row chains (ap (λ i. is_chain_of key (slice_get chains i)) (sym e) ∙ f)

-- ---- what the keys have then

pub rows_put : (key : Bytes) (row : Row) (chains : List Chain) (k : Bytes) → AreChains chains → rows_of (put_at key row chains) k ≡ cond (is_same key k) (put_row row (rows_of chains k)) (rows_of chains k)
rows_put key row [] k h = by_test (is_same key k) (λ (rs : List Row). cond (is_same key k) (row ∷ []) [] ≡ cond (is_same key k) (row ∷ []) []) [] [] (λ e. refl) (λ e. refl)
rows_put key row (c ∷ cs) k h = step (is_below c.key key) refl (is_same c.key k) refl (is_same key k) refl (rows_put key row cs k h.3)
  where
    step : (b : Bool) → is_below c.key key ≡ b → (s : Bool) → is_same c.key k ≡ s → (t : Bool) → is_same key k ≡ t → rows_of (put_at key row cs) k ≡ cond (is_same key k) (put_row row (rows_of cs k)) (rows_of cs k) → rows_of (put_at key row (c ∷ cs)) k ≡ cond (is_same key k) (put_row row (rows_of (c ∷ cs) k)) (rows_of (c ∷ cs) k)
    step true e true p true q ih = not_both (subst (λ z. is_below c.key z ≡ true) (same_eq key k q ∙ sym (same_eq c.key k p)) e) (below_itself c.key)
    step true e true p false q ih = rw (e, p, q) refl
    step true e false p t q ih = rw (e, p) ih
    step false e s p t q ih = other (is_same c.key key) refl s p t q
      where
        other : (o : Bool) → is_same c.key key ≡ o → (s : Bool) → is_same c.key k ≡ s → (t : Bool) → is_same key k ≡ t → rows_of (put_at key row (c ∷ cs)) k ≡ cond (is_same key k) (put_row row (rows_of (c ∷ cs) k)) (rows_of (c ∷ cs) k)
        other true o true p true q = rw (e, o, p, q) refl
        other true o true p false q = not_both (subst (λ z. is_same z k ≡ true) (same_eq c.key key o) p) q
        other true o false p true q = not_both (subst (λ z. is_same z k ≡ true) (sym (same_eq c.key key o)) q) p
        other true o false p false q = rw (e, o, p, q) refl
        other false o s p true q =
            let below : is_below key c.key ≡ true = by_cases (is_below key c.key) refl in
            let none : rows_of (c ∷ cs) k ≡ [] = later_keys k (c ∷ cs) (subst (λ z. AllByRecursion (λ (d : Chain). is_below z d.key ≡ true) (c ∷ cs)) (same_eq key k q) (below, all_weaker (λ (d : Chain). is_below c.key d.key ≡ true) (λ (d : Chain). is_below key d.key ≡ true) (λ d w. below_trans key c.key d.key below w) cs h.0)) in
            rw (e, o, q) (ap (λ (rs : List Row). put_row row rs) (sym none))
          where
            by_cases : (b : Bool) → is_below key c.key ≡ b → is_below key c.key ≡ true
            by_cases true t = t
            by_cases false t = not_both (subst (λ z. is_same c.key z ≡ true) (neither_below c.key key e t) (same_itself c.key)) o
        other false o s p false q = rw (e, o, q) refl

-- at the row's version the key has its value, and other keys have what they had
pub value_put : (key : Bytes) (row : Row) (chains : List Chain) (k : Bytes) → AreChains chains → value_at (put_at key row chains) k row.version ≡ cond (is_same key k) row.value (value_at chains k row.version)
value_put key row chains k h = ap (λ (rs : List Row). value_in rs row.version None) (rows_put key row chains k h) ∙ split (is_same key k)
  where
    split : (b : Bool) → value_in (cond b (put_row row (rows_of chains k)) (rows_of chains k)) row.version None ≡ cond b row.value (value_at chains k row.version)
    split true = value_end (without_rows row.version (rows_of chains k)) row row.version None (omega arith)
    split false = refl

-- ---- they stay in order, and other versions stay

all_put : (P : Bytes → Type 0) (key : Bytes) (row : Row) (chains : List Chain) → P key → AllByRecursion (λ (c : Chain). P c.key) chains → AllByRecursion (λ (c : Chain). P c.key) (put_at key row chains)
all_put P key row [] p h = (p, tt)
all_put P key row (c ∷ cs) p h = by_test (is_below c.key key) (AllByRecursion (λ (d : Chain). P d.key)) (c ∷ put_at key row cs) (cond (is_same c.key key) (record { key = c.key; rows = put_row row c.rows } ∷ cs) (record { key = key; rows = row ∷ [] } ∷ c ∷ cs))
    (λ e. (h.0, all_put P key row cs p h.1))
    (λ e. by_test (is_same c.key key) (AllByRecursion (λ (d : Chain). P d.key)) (record { key = c.key; rows = put_row row c.rows } ∷ cs) (record { key = key; rows = row ∷ [] } ∷ c ∷ cs) (λ f. h) (λ f. (p, h)))

chains_put : (key : Bytes) (row : Row) (chains : List Chain) → AreChains chains → AreUpto row.version chains → AreChains (put_at key row chains)
chains_put key row [] h u = (tt, omega arith, (tt, tt), tt)
chains_put key row (c ∷ cs) h u = by_test (is_below c.key key) AreChains (c ∷ put_at key row cs) (cond (is_same c.key key) (record { key = c.key; rows = put_row row c.rows } ∷ cs) (record { key = key; rows = row ∷ [] } ∷ c ∷ cs))
    (λ e. (all_put (λ k. is_below c.key k ≡ true) key row cs e h.0, h.1, h.2, chains_put key row cs h.3 u.1))
    (λ e. by_test (is_same c.key key) AreChains (record { key = c.key; rows = put_row row c.rows } ∷ cs) (record { key = key; rows = row ∷ [] } ∷ c ∷ cs)
    (λ f. (h.0, some_end (without_rows row.version c.rows) row, rising_put row c.rows h.2 u.0, h.3))
    (λ f. let below = by_cases e f (is_below key c.key) refl in ((below, all_weaker (λ (d : Chain). is_below c.key d.key ≡ true) (λ (d : Chain). is_below key d.key ≡ true) (λ d w. below_trans key c.key d.key below w) cs h.0), omega arith, (tt, tt), h)))
  where
    by_cases : is_below c.key key ≡ false → is_same c.key key ≡ false → (b : Bool) → is_below key c.key ≡ b → is_below key c.key ≡ true
    by_cases e f true t = t
    by_cases e f false t = not_both (subst (λ z. is_same c.key z ≡ true) (neither_below c.key key e t) (same_itself c.key)) f

upto_put_at : (key : Bytes) (row : Row) (chains : List Chain) → AreUpto row.version chains → AreUpto row.version (put_at key row chains)
upto_put_at key row [] u = ((omega arith, tt), tt)
upto_put_at key row (c ∷ cs) u = by_test (is_below c.key key) (AreUpto row.version) (c ∷ put_at key row cs) (cond (is_same c.key key) (record { key = c.key; rows = put_row row c.rows } ∷ cs) (record { key = key; rows = row ∷ [] } ∷ c ∷ cs))
    (λ e. (u.0, upto_put_at key row cs u.1))
    (λ e. by_test (is_same c.key key) (AreUpto row.version) (record { key = c.key; rows = put_row row c.rows } ∷ cs) (record { key = key; rows = row ∷ [] } ∷ c ∷ cs)
    (λ f. (upto_put row c.rows u.0, u.1))
    (λ f. ((omega arith, tt), u)))

without_put : (key : Bytes) (row : Row) (chains : List Chain) → AreUpto row.version chains → without row.version (put_at key row chains) ≡ without row.version chains
without_put key row [] u = let t = eq-eqb row.version row.version refl in rw t refl
without_put key row (c ∷ cs) u = by_test (is_below c.key key) (λ (xs : List Chain). without row.version xs ≡ without row.version (c ∷ cs)) (c ∷ put_at key row cs) (cond (is_same c.key key) (record { key = c.key; rows = put_row row c.rows } ∷ cs) (record { key = key; rows = row ∷ [] } ∷ c ∷ cs))
    (λ e. ap (with_rows c.key (without_rows row.version c.rows)) (without_put key row cs u.1))
    (λ e. by_test (is_same c.key key) (λ (xs : List Chain). without row.version xs ≡ without row.version (c ∷ cs)) (record { key = c.key; rows = put_row row c.rows } ∷ cs) (record { key = key; rows = row ∷ [] } ∷ c ∷ cs)
    (λ f. ap (λ (rs : List Row). with_rows c.key rs (without row.version cs)) (without_put_row row c.rows u.0))
    (λ f. let t = eq-eqb row.version row.version refl in rw t refl))

pub put_extends : (key : Bytes) (row : Row) (chains : List Chain) → AreChains chains → AreUpto row.version chains → Extends row.version chains (put_at key row chains)
put_extends key row chains h u = record { chains = chains_put key row chains h u; upto = upto_put_at key row chains u; same = without_put key row chains u }

-- ---- what other versions show

pub value_without : (version at : ℕ) (rows : List Row) (before : Option Bytes) → at < version → value_in (without_rows version rows) at before ≡ value_in rows at before
value_without version at [] before l = refl
value_without version at (r ∷ rs) before l = ⊎_elim
    (λ q. let t = eq-eqb r.version version q in let s = lt-leb r.version at (omega arith) in rw (t, s) (value_without version at rs before l))
    (λ q. let t = ne_eqb r.version version q in rw t (value_without version at rs (cond (nat_le r.version at) r.value before) l))
    (cases_eq r.version version)

pub same_extends : (version : ℕ) (chains : List Chain) → AreChains chains → AreUpto version chains → Extends version chains chains
same_extends version chains h u = record { chains = h; upto = u; same = refl }

pub extends_more : (version : ℕ) (a b c : List Chain) → Extends version a b → Extends version b c → Extends version a c
extends_more version a b c f g = record { chains = g.chains; upto = g.upto; same = g.same ∙ f.same }

-- what holds in both cases of a result
pub either : {A E : Type 0} {P Q : Type 0} (r : Result A E) (R : Type 0) → (P → R) → (Q → R) → OnOk r P → OnErr r Q → R
either (Ok x) R f g p q = f p
either (Err e) R f g p q = g q
