-- The rows of one version are taken away.
use Rattle.std.proofs.Common.{◌≡◌, ℕ, zero, suc, ◌-◌, ◌<◌, ◌≤◌, Bool, true, false, cond, List, [], ◌∷◌, ◌++◌, length, Option, Some, None, take, drop, ⊎_elim, inl, inr, refl, sym, ap, ◌∙◌, subst, arith}
use Rattle.std.specs.List.{slice_get, slice_set, remove, AllByRecursion}
use Rattle.std.proofs.lemmas.Bool.{cases_eq, cases_lt, eq-eqb, ne_eqb, le-leb, lt-leb}
use Rattle.fb_bytes.specs.Bytes.{Bytes, is_below, is_same}
use Rattle.fb_bytes.specs.Options.{IsIn}
use Rattle.fb_bytes.proofs.Order.{same_eq}
use Rattle.mutations.proofs.Basics.{by_test, all_weaker}
use Rattle.versioned_kv.specs.Chains.{Row, Chain, value_in, rows_of, value_at}
use Rattle.versioned_kv.specs.inner.Chains.{AreRising, AreChains}
use Rattle.versioned_kv.specs.Edits.{without_rows, with_rows, without}
use Rattle.versioned_kv.specs.inner.Edits.{AreRowsUpto, AreUpto, Extends}
use Rattle.versioned_kv.specs.inner.Sound.{AreVersions, AreOf}
use Rattle.versioned_kv.proofs.Lists.{AreRowsBelow, without_below}
use Rattle.versioned_kv.proofs.Values.{later_keys}
use Rattle.versioned_kv.proofs.Puts.{rising_without, value_without}

-- ---- one chain

-- the chain goes with its last row
pub cut_gone : (place : ℕ) (chains : List Chain) (chain : Chain) (key : Bytes) (rows : List Row) → length rows ≡ 0 → remove (slice_set chains place chain) place ≡ take place chains ++ with_rows key rows (drop (suc place) chains)
cut_gone place chains chain key [] n = gone place chains
  where
    gone : (place : ℕ) (chains : List Chain) → take place (slice_set chains place chain) ++ drop (suc place) (slice_set chains place chain) ≡ take place chains ++ drop (suc place) chains
    gone zero [] = refl
    gone (suc place) [] = refl
    gone zero (c ∷ cs) = refl
    gone (suc place) (c ∷ cs) = ap (λ (xs : List Chain). c ∷ xs) (gone place cs)
cut_gone place chains chain key (r ∷ rs) n = absurd (omega arith)

pub cut_stays : (place : ℕ) (chains : List Chain) (key : Bytes) (rows : List Row) → place < length chains → 0 < length rows → slice_set chains place (record { key = key; rows = rows }) ≡ take place chains ++ with_rows key rows (drop (suc place) chains)
cut_stays place chains key [] l n = absurd (omega arith)
cut_stays place chains key (r ∷ rs) l n = stays place chains l
  where
    stays : (place : ℕ) (chains : List Chain) → place < length chains → slice_set chains place (record { key = key; rows = r ∷ rs }) ≡ take place chains ++ record { key = key; rows = r ∷ rs } ∷ drop (suc place) chains
    stays place [] l = absurd (omega arith)
    stays zero (c ∷ cs) l = refl
    stays (suc place) (c ∷ cs) l = ap (λ (xs : List Chain). c ∷ xs) (stays place cs (omega arith))

pub chain_rows : (version place : ℕ) (chains : List Chain) (chain : Chain) → AreChains chains → AreUpto version chains → slice_get chains place ≡ Some chain → AreRising chain.rows × AreRowsUpto version chain.rows
chain_rows version place [] chain h u g = cc
chain_rows version zero (c ∷ cs) chain h u g = let same : c ≡ chain = cc in subst (λ (x : Chain). AreRising x.rows × AreRowsUpto version x.rows) same (h.2, u.0)
chain_rows version (suc place) (c ∷ cs) chain h u g = chain_rows version place cs chain h.3 u.1 g

-- ---- what is left

pub all_with : (P : Chain → Type 0) (key : Bytes) (rows : List Row) (rest : List Chain) → P (record { key = key; rows = rows }) → AllByRecursion P rest → AllByRecursion P (with_rows key rows rest)
all_with P key [] rest p h = h
all_with P key (r ∷ rs) rest p h = (p, h)

all_left : (P : Bytes → Type 0) (version : ℕ) (chains : List Chain) → AllByRecursion (λ (c : Chain). P c.key) chains → AllByRecursion (λ (c : Chain). P c.key) (without version chains)
all_left P version [] h = tt
all_left P version (c ∷ cs) h = all_with (λ (d : Chain). P d.key) c.key (without_rows version c.rows) (without version cs) h.0 (all_left P version cs h.1)

pub chains_with : (key : Bytes) (rows : List Row) (rest : List Chain) → AllByRecursion (λ (later : Chain). is_below key later.key ≡ true) rest → AreRising rows → AreChains rest → AreChains (with_rows key rows rest)
chains_with key [] rest a r h = h
chains_with key (x ∷ xs) rest a r h = (a, omega arith, r, h)

pub chains_left : (version : ℕ) (chains : List Chain) → AreChains chains → AreChains (without version chains)
chains_left version [] h = tt
chains_left version (c ∷ cs) h = chains_with c.key (without_rows version c.rows) (without version cs) (all_left (λ k. is_below c.key k ≡ true) version cs h.0) (rising_without version c.rows h.2) (chains_left version cs h.3)

pub rows_with : (key : Bytes) (rows : List Row) (rest : List Chain) (k : Bytes) → (is_same key k ≡ true → rows_of rest k ≡ []) → rows_of (with_rows key rows rest) k ≡ cond (is_same key k) rows (rows_of rest k)
rows_with key [] rest k f = go (is_same key k) refl
  where
    go : (b : Bool) → is_same key k ≡ b → rows_of rest k ≡ cond b [] (rows_of rest k)
    go true e = f e
    go false e = refl
rows_with key (r ∷ rs) rest k f = refl

pub rows_left : (version : ℕ) (chains : List Chain) (k : Bytes) → AreChains chains → rows_of (without version chains) k ≡ without_rows version (rows_of chains k)
rows_left version [] k h = refl
rows_left version (c ∷ cs) k h = rows_with c.key (without_rows version c.rows) (without version cs) k none ∙ split (is_same c.key k) (rows_left version cs k h.3)
  where
    none : is_same c.key k ≡ true → rows_of (without version cs) k ≡ []
    none e = later_keys k (without version cs) (subst (λ z. AllByRecursion (λ (d : Chain). is_below z d.key ≡ true) (without version cs)) (same_eq c.key k e) (all_left (λ z. is_below c.key z ≡ true) version cs h.0))

    split : (b : Bool) → rows_of (without version cs) k ≡ without_rows version (rows_of cs k) → cond b (without_rows version c.rows) (rows_of (without version cs) k) ≡ without_rows version (cond b c.rows (rows_of cs k))
    split true ih = refl
    split false ih = ih

-- chains without a row of the version
abbrev pub AreBelow : ℕ → List Chain → Type 0
AreBelow version chains = AllByRecursion (λ (chain : Chain). AreRowsBelow version chain.rows) chains

pub left_alone : (version : ℕ) (chains : List Chain) → AreChains chains → AreBelow version chains → without version chains ≡ chains
left_alone version [] h b = refl
left_alone version (c ∷ cs) h b = ap (λ (rs : List Row). with_rows c.key rs (without version cs)) (without_below version c.rows b.0) ∙ ap (with_rows c.key c.rows) (left_alone version cs h.3 b.1) ∙ whole c.rows h.1
  where
    whole : (rows : List Row) → 0 < length rows → with_rows c.key rows cs ≡ record { key = c.key; rows = rows } ∷ cs
    whole [] l = absurd (omega arith)
    whole (r ∷ rs) l = refl

-- below the version, chains that differ by it alone have the same values
pub value_below : (version at : ℕ) (old new : List Chain) (k : Bytes) → AreChains old → Extends version old new → at < version → value_at new k at ≡ value_at old k at
value_below version at old new k h e l =
    sym (value_without version at (rows_of new k) None l)
    ∙ ap (λ (rs : List Row). value_in rs at None) (sym (rows_left version new k e.chains) ∙ ap (λ (cs : List Chain). rows_of cs k) e.same ∙ rows_left version old k h)
    ∙ value_without version at (rows_of old k) None l

-- past the version they have what they had at it
later_in : (version at : ℕ) (rows : List Row) (before : Option Bytes) → AreRowsUpto version rows → version ≤ at → value_in rows at before ≡ value_in rows version before
later_in version at [] before u l = refl
later_in version at (r ∷ rs) before u l = let s = le-leb r.version at (omega arith) in let t = le-leb r.version version u.0 in rw (s, t) (later_in version at rs r.value u.1 l)

pub upto_of : (version : ℕ) (chains : List Chain) (k : Bytes) → AreUpto version chains → AreRowsUpto version (rows_of chains k)
upto_of version [] k u = tt
upto_of version (c ∷ cs) k u = by_test (is_same c.key k) (AreRowsUpto version) c.rows (rows_of cs k) (λ e. u.0) (λ e. upto_of version cs k u.1)

pub value_later : (version at : ℕ) (chains : List Chain) (k : Bytes) → AreUpto version chains → version ≤ at → value_at chains k at ≡ value_at chains k version
value_later version at chains k u l = later_in version at (rows_of chains k) None (upto_of version chains k u) l

-- without the version a key has, from just before it on, what it had just before it
just_before : (version at : ℕ) (rows : List Row) (before : Option Bytes) → AreRowsUpto version rows → 0 < version → version - 1 ≤ at → value_in (without_rows version rows) at before ≡ value_in rows (version - 1) before
just_before version at [] before u p l = refl
just_before version at (r ∷ rs) before u p l = ⊎_elim
    (λ q. let t = eq-eqb r.version version q in let s = lt-leb r.version (version - 1) (omega arith) in rw (t, s) (just_before version at rs before u.1 p l))
    (λ q. let t = ne_eqb r.version version q in let m : r.version < version = less r.version u.0 q in let s = le-leb r.version at (omega arith) in let w = le-leb r.version (version - 1) (omega arith) in rw t (ap (λ b. value_in (without_rows version rs) at (cond b r.value before)) s ∙ just_before version at rs r.value u.1 p l ∙ sym (ap (λ b. value_in rs (version - 1) (cond b r.value before)) w)))
    (cases_eq r.version version)
  where
    less : (n : ℕ) → n ≤ version → (n ≡ version → ⊥) → n < version
    less n a ne = ⊎_elim (λ x. x) (λ x. absurd (ne (omega arith))) (cases_lt n version)

pub value_back : (version at : ℕ) (chains : List Chain) (k : Bytes) → AreChains chains → AreUpto version chains → 0 < version → version - 1 ≤ at → value_at (without version chains) k at ≡ value_at chains k (version - 1)
value_back version at chains k h u p l = ap (λ (rs : List Row). value_in rs at None) (rows_left version chains k h) ∙ just_before version at (rows_of chains k) None (upto_of version chains k u) p l

-- ---- which versions there are

pub in_end : (x y : ℕ) (xs : List ℕ) → IsIn x (xs ++ y ∷ []) → (x ≡ y → ⊥) → IsIn x xs
in_end x y [] h n = ⊎_elim (λ e. n e) (λ e. e) h
in_end x y (z ∷ zs) h n = ⊎_elim (λ e. inl e) (λ e. inr (in_end x y zs e n)) h

pub in_front : (x y : ℕ) (xs : List ℕ) → IsIn x xs → IsIn x (xs ++ y ∷ [])
in_front x y [] h = absurd h
in_front x y (z ∷ zs) h = ⊎_elim (λ e. inl e) (λ e. inr (in_front x y zs e)) h

pub in_last : (y : ℕ) (xs : List ℕ) → IsIn y (xs ++ y ∷ [])
in_last y [] = inl refl
in_last y (z ∷ zs) = inr (in_last y zs)

pub all_in : (P : ℕ → Type 0) (x : ℕ) (xs : List ℕ) → AllByRecursion P xs → IsIn x xs → P x
all_in P x [] a h = absurd h
all_in P x (y ∷ ys) a h = ⊎_elim (λ e. subst P (sym e) a.0) (λ e. all_in P x ys a.1 e) h

pub below_all : (version : ℕ) (versions : List ℕ) (chains : List Chain) → AllByRecursion (λ (earlier : ℕ). earlier < version) versions → AreOf versions chains → AreBelow version chains
below_all version versions chains a h = all_weaker (λ (c : Chain). AllByRecursion (λ (r : Row). IsIn r.version versions) c.rows) (λ (c : Chain). AreRowsBelow version c.rows) (λ c k. all_weaker (λ (r : Row). IsIn r.version versions) (λ (r : Row). r.version < version) (λ r i. all_in (λ n. n < version) r.version versions a i) c.rows k) chains h

pub upto_below : (version : ℕ) (chains : List Chain) → AreBelow version chains → AreUpto version chains
upto_below version chains h = all_weaker (λ (c : Chain). AreRowsBelow version c.rows) (λ (c : Chain). AreRowsUpto version c.rows) (λ c k. all_weaker (λ (r : Row). r.version < version) (λ (r : Row). r.version ≤ version) (λ r l. omega arith) c.rows k) chains h

pub versions_end : (version : ℕ) (versions : List ℕ) → AreVersions versions → AllByRecursion (λ (earlier : ℕ). earlier < version) versions → AreVersions (versions ++ version ∷ [])
versions_end version [] h a = (tt, tt)
versions_end version (x ∷ xs) h a = (all_snoc xs h.0, versions_end version xs h.1 a.1)
  where
    all_snoc : (ys : List ℕ) → AllByRecursion (λ (later : ℕ). x < later) ys → AllByRecursion (λ (later : ℕ). x < later) (ys ++ version ∷ [])
    all_snoc [] k = (a.0, tt)
    all_snoc (y ∷ ys) k = (k.0, all_snoc ys k.1)

pub front_versions : (version : ℕ) (versions : List ℕ) → AreVersions (versions ++ version ∷ []) → AreVersions versions × AllByRecursion (λ (earlier : ℕ). earlier < version) versions
front_versions version [] h = (tt, tt)
front_versions version (x ∷ xs) h = let rest = front_versions version xs h.1 in let k = snoc xs h.0 in ((k.0, rest.0), (k.1, rest.1))
  where
    snoc : (ys : List ℕ) → AllByRecursion (λ (later : ℕ). x < later) (ys ++ version ∷ []) → AllByRecursion (λ (later : ℕ). x < later) ys × (x < version)
    snoc [] k = (tt, k.0)
    snoc (y ∷ ys) k = let r = snoc ys k.1 in ((k.0, r.0), r.1)

-- rows that are of the version, or of the older ones
of_rows : (version : ℕ) (versions : List ℕ) (rows : List Row) → AllByRecursion (λ (r : Row). IsIn r.version versions) (without_rows version rows) → AllByRecursion (λ (r : Row). IsIn r.version (versions ++ version ∷ [])) rows
of_rows version versions [] h = tt
of_rows version versions (r ∷ rs) h = ⊎_elim
    (λ q. let t = eq-eqb r.version version q in (subst (λ n. IsIn n (versions ++ version ∷ [])) (sym q) (in_last version versions), of_rows version versions rs (subst (λ b. AllByRecursion (λ (x : Row). IsIn x.version versions) (cond b (without_rows version rs) (r ∷ without_rows version rs))) t h)))
    (λ q. let t = ne_eqb r.version version q in let k = subst (λ b. AllByRecursion (λ (x : Row). IsIn x.version versions) (cond b (without_rows version rs) (r ∷ without_rows version rs))) t h in (in_front r.version version versions k.0, of_rows version versions rs k.1))
    (cases_eq r.version version)

split_with : (P : List Row → Type 0) (key : Bytes) (rows : List Row) (rest : List Chain) → P [] → AllByRecursion (λ (c : Chain). P c.rows) (with_rows key rows rest) → P rows × AllByRecursion (λ (c : Chain). P c.rows) rest
split_with P key [] rest p h = (p, h)
split_with P key (r ∷ rs) rest p h = (h.0, h.1)

pub of_more : (version : ℕ) (versions : List ℕ) (chains : List Chain) → AreOf versions (without version chains) → AreOf (versions ++ version ∷ []) chains
of_more version versions [] h = tt
of_more version versions (c ∷ cs) h = let k = split_with (λ (rs : List Row). AllByRecursion (λ (r : Row). IsIn r.version versions) rs) c.key (without_rows version c.rows) (without version cs) tt h in (of_rows version versions c.rows k.0, of_more version versions cs k.1)

of_fewer_rows : (version : ℕ) (versions : List ℕ) (rows : List Row) → AllByRecursion (λ (r : Row). IsIn r.version (versions ++ version ∷ [])) rows → AllByRecursion (λ (r : Row). IsIn r.version versions) (without_rows version rows)
of_fewer_rows version versions [] h = tt
of_fewer_rows version versions (r ∷ rs) h = ⊎_elim
    (λ q. let t = eq-eqb r.version version q in rw t (of_fewer_rows version versions rs h.1))
    (λ q. let t = ne_eqb r.version version q in rw t (in_end r.version version versions h.0 q, of_fewer_rows version versions rs h.1))
    (cases_eq r.version version)

pub of_fewer : (version : ℕ) (versions : List ℕ) (chains : List Chain) → AreOf (versions ++ version ∷ []) chains → AreOf versions (without version chains)
of_fewer version versions [] h = tt
of_fewer version versions (c ∷ cs) h = all_with (λ (d : Chain). AllByRecursion (λ (r : Row). IsIn r.version versions) d.rows) c.key (without_rows version c.rows) (without version cs) (of_fewer_rows version versions c.rows h.0) (of_fewer version versions cs h.1)

-- the last version is the newest
pub upto_last : (version : ℕ) (versions : List ℕ) (chains : List Chain) → AreVersions (versions ++ version ∷ []) → AreOf (versions ++ version ∷ []) chains → AreUpto version chains
upto_last version versions chains v h =
    let a = all_snoc versions (front_versions version versions v).1 in
    all_weaker (λ (c : Chain). AllByRecursion (λ (r : Row). IsIn r.version (versions ++ version ∷ [])) c.rows) (λ (c : Chain). AreRowsUpto version c.rows) (λ c k. all_weaker (λ (r : Row). IsIn r.version (versions ++ version ∷ [])) (λ (r : Row). r.version ≤ version) (λ r i. all_in (λ n. n ≤ version) r.version (versions ++ version ∷ []) a i) c.rows k) chains h
  where
    all_snoc : (ys : List ℕ) → AllByRecursion (λ (n : ℕ). n < version) ys → AllByRecursion (λ (n : ℕ). n ≤ version) (ys ++ version ∷ [])
    all_snoc [] k = (omega arith, tt)
    all_snoc (y ∷ ys) k = (let l = k.0 in omega arith, all_snoc ys k.1)
