-- What the queue says of the rows.
use Rattle.std.proofs.Common.{◌≡◌, ℕ, zero, suc, ◌-◌, ◌<◌, ◌≤◌, ◌⊎◌, Bool, true, false, cond, List, [], ◌∷◌, ◌++◌, length, Some, take, drop, ⊎_elim, inl, inr, refl, sym, ap, ◌∙◌, subst, arith}
use Rattle.std.specs.List.{slice_get, slice_set, AllByRecursion}
use Rattle.std.proofs.lemmas.Bool.{cases_eq, cases_lt, eq-eqb, ne_eqb}
use Rattle.fb_bytes.specs.Bytes.{Bytes, is_same}
use Rattle.fb_bytes.specs.Options.{IsIn}
use Rattle.fb_bytes.proofs.Order.{not_both, same_eq, same_itself}
use Rattle.mutations.proofs.Basics.{by_test, all_weaker, all_so}
use Rattle.versioned_kv.specs.Chains.{Row, Chain, rows_upto, rows_of}
use Rattle.versioned_kv.specs.inner.Chains.{AreRising, AreChains}
use Rattle.versioned_kv.specs.inner.Chunks.{joined}
use Rattle.versioned_kv.specs.Edits.{without_rows, without}
use Rattle.versioned_kv.specs.inner.Edits.{changed_at, AreRowsUpto, AreUpto}
use Rattle.versioned_kv.specs.Forgotten.{forgotten, all_forgotten}
use Rattle.versioned_kv.specs.Touched.{RowsStay}
use Rattle.versioned_kv.specs.inner.Queued.{Touch, touch, IsNoted, AreRowsNoted, AreNoted, AreInOrder, AreTouchesUpto, AreTouchesBelow, AreTouchesPast, Notes, Falls, AreRowsKept, MayFall, AreDue}
use Rattle.versioned_kv.proofs.Search.{all_at}
use Rattle.versioned_kv.proofs.Puts.{all_without, rising_without}
use Rattle.versioned_kv.proofs.Cuts.{AreBelow}
use Rattle.versioned_kv.proofs.Lists.{AreRowsBelow}
use Rattle.versioned_kv.proofs.Joined.{assoc, none_behind, length_both, all_parts, all_both, parted, set_parted}
use Rattle.versioned_kv.proofs.Touches.{all_two, each_chain}
use Rattle.versioned_kv.proofs.Changes.{each_changed, changed_all, chains_changed, each_again, each_stays, without_is, forgotten_is}
use Rattle.versioned_kv.proofs.Forgets.{ArePast, all_drop, past_upto, past_stay, first_stays, left, forgotten_again, rising_left}

-- ---- lists

pub in_before : {A : Type 0} (x : A) (xs ys : List A) → IsIn x xs → IsIn x (xs ++ ys)
in_before x [] ys h = absurd h
in_before x (z ∷ zs) ys h = ⊎_elim (λ e. inl e) (λ e. inr (in_before x zs ys e)) h

pub in_behind : {A : Type 0} (x : A) (xs ys : List A) → IsIn x ys → IsIn x (xs ++ ys)
in_behind x [] ys h = h
in_behind x (z ∷ zs) ys h = inr (in_behind x zs ys h)

pub in_either : {A : Type 0} (x : A) (xs ys : List A) → IsIn x (xs ++ ys) → IsIn x xs ⊎ IsIn x ys
in_either x [] ys h = inr h
in_either x (z ∷ zs) ys h = ⊎_elim (λ e. inl (inl e)) (λ e. ⊎_elim (λ k. inl (inr k)) (λ k. inr k) (in_either x zs ys e)) h

pub each_in : {A : Type 0} (P : A → Type 0) (x : A) (xs : List A) → AllByRecursion P xs → IsIn x xs → P x
each_in P x [] a h = absurd h
each_in P x (y ∷ ys) a h = ⊎_elim (λ e. subst P (sym e) a.0) (λ e. each_in P x ys a.1 e) h

-- ---- touches that were added

pub notes_none : (version : ℕ) (queue : List Touch) → Notes version queue queue
notes_none version queue = record { more = []; added = sym (none_behind queue); each = tt }

pub notes_one : (version : ℕ) (key : Bytes) (queue : List Touch) → Notes version queue (queue ++ touch version key ∷ [])
notes_one version key queue = record { more = touch version key ∷ []; added = refl; each = (refl, tt) }

pub notes_more : (version : ℕ) (a b c : List Touch) → Notes version a b → Notes version b c → Notes version a c
notes_more version a b c f g = record {
  more = f.more ++ g.more;
  added = g.added ∙ ap (λ (ts : List Touch). ts ++ g.more) f.added ∙ assoc a f.more g.more;
  each = all_both (λ (t : Touch). t.version ≡ version) f.more g.more f.each g.each;
}

pub notes_in : (version : ℕ) (a b : List Touch) (t : Touch) → Notes version a b → IsIn t a → IsIn t b
notes_in version a b t f h = subst (IsIn t) (sym f.added) (in_before t a f.more h)

pub noted_one : (version : ℕ) (key : Bytes) (queue : List Touch) → IsNoted (queue ++ touch version key ∷ []) version key
noted_one version key queue = in_behind (touch version key) queue (touch version key ∷ []) (inl refl)

-- ---- rows of a version

pub key_noted : (version : ℕ) (queue : List Touch) (key : Bytes) (rows : List Row) → IsNoted queue version key → AreRowsNoted version queue key rows
key_noted version queue key rows h = all_so (λ (r : Row). r.version ≡ version → IsNoted queue version key) (λ r e. h) rows

pub noted_later : (version : ℕ) (chains : List Chain) (a b : List Touch) → Notes version a b → AreNoted version chains a → AreNoted version chains b
noted_later version chains a b f h = all_weaker (λ (c : Chain). AreRowsNoted version a c.key c.rows) (λ (c : Chain). AreRowsNoted version b c.key c.rows) (λ c k. all_weaker (λ (r : Row). r.version ≡ version → IsNoted a version c.key) (λ (r : Row). r.version ≡ version → IsNoted b version c.key) (λ r g e. notes_in version a b (touch version c.key) f (g e)) c.rows k) chains h

pub none_noted : (version : ℕ) (chains : List Chain) (queue : List Touch) → AreBelow version chains → AreNoted version chains queue
none_noted version chains queue h = all_weaker (λ (c : Chain). AreRowsBelow version c.rows) (λ (c : Chain). AreRowsNoted version queue c.key c.rows) (λ c k. all_weaker (λ (r : Row). r.version < version) (λ (r : Row). r.version ≡ version → IsNoted queue version c.key) (λ r l e. absurd (omega arith)) c.rows k) chains h

pub set_noted : (version place : ℕ) (chains : List Chain) (chain new : Chain) (a b : List Touch) → slice_get chains place ≡ Some chain → Notes version a b → (AreNoted version (chain ∷ []) a → AreNoted version (new ∷ []) b) → AreNoted version chains a → AreNoted version (slice_set chains place new) b
set_noted version place [] chain new a b g f step h = cc
set_noted version zero (c ∷ cs) chain new a b g f step h =
    let same : c ≡ chain = cc in
    ((step (subst (λ (x : Chain). AreRowsNoted version a x.key x.rows) same h.0, tt)).0, noted_later version cs a b f h.1)
set_noted version (suc place) (c ∷ cs) chain new a b g f step h = ((noted_later version (c ∷ []) a b f (h.0, tt)).0, set_noted version place cs chain new a b g f step h.1)

pub part_noted : (version place : ℕ) (chunks : List (List Chain)) (chunk new : List Chain) (a b : List Touch) → place < length chunks → slice_get chunks place ≡ Some chunk → Notes version a b → (AreNoted version chunk a → AreNoted version new b) → AreNoted version (joined chunks) a → AreNoted version (joined (slice_set chunks place new)) b
part_noted version place chunks chunk new a b l g f step h =
    let P = λ (c : Chain). AreRowsNoted version a c.key c.rows in
    let Q = λ (c : Chain). AreRowsNoted version b c.key c.rows in
    let before = joined (take place chunks) in
    let behind = joined (drop (suc place) chunks) in
    let first = all_parts P before (chunk ++ behind) (subst (λ (cs : List Chain). AreNoted version cs a) (parted place chunks chunk g) h) in
    let second = all_parts P chunk behind first.1 in
    subst (λ (cs : List Chain). AreNoted version cs b) (sym (set_parted place chunks new l))
    (all_both Q before (new ++ behind) (noted_later version before a b f first.0) (all_both Q new behind (step second.0) (noted_later version behind a b f second.1)))

pub noted_rows : (version : ℕ) (chains : List Chain) (queue : List Touch) (k : Bytes) → AreNoted version chains queue → AreRowsNoted version queue k (rows_of chains k)
noted_rows version [] queue k h = tt
noted_rows version (c ∷ cs) queue k h = by_test (is_same c.key k) (AreRowsNoted version queue k) c.rows (rows_of cs k) (λ e. subst (λ z. AreRowsNoted version queue z c.rows) (same_eq c.key k e) h.0) (λ e. noted_rows version cs queue k h.1)

pub noted_write : (version : ℕ) (key : Bytes) (old new : List Chain) (a b : List Touch) → AreChains new → RowsStay (is_same key) old new → Notes version a b → IsNoted b version key → AreNoted version old a → AreNoted version new b
noted_write version key old new a b ordered stay f n h = each_chain (λ k rows. AreRowsNoted version b k rows) new ordered (λ k. go k (is_same key k) refl)
  where
    go : (k : Bytes) (s : Bool) → is_same key k ≡ s → AreRowsNoted version b k (rows_of new k)
    go k true e = key_noted version b k (rows_of new k) (subst (IsNoted b version) (same_eq key k e) n)
    go k false e = subst (AreRowsNoted version b k) (sym (stay k e)) (noted_rows version old b k (noted_later version old a b f h))

-- ---- the order

order_same : (version : ℕ) (queue : List Touch) → AllByRecursion (λ (t : Touch). t.version ≡ version) queue → AreInOrder queue
order_same version [] h = tt
order_same version (t ∷ ts) h = (all_weaker (λ (s : Touch). s.version ≡ version) (λ (s : Touch). t.version ≤ s.version) (λ s e. let f = h.0 in omega arith) ts h.1, order_same version ts h.1)

order_both : (version : ℕ) (xs ys : List Touch) → AreInOrder xs → AreTouchesUpto version xs → AllByRecursion (λ (t : Touch). t.version ≡ version) ys → AreInOrder (xs ++ ys)
order_both version [] ys h u e = order_same version ys e
order_both version (x ∷ xs) ys h u e = (
  all_both (λ (s : Touch). x.version ≤ s.version) xs ys h.0 (all_weaker (λ (s : Touch). s.version ≡ version) (λ (s : Touch). x.version ≤ s.version) (λ s q. let l = u.0 in omega arith) ys e),
  order_both version xs ys h.1 u.1 e,
)

pub order_more : (version : ℕ) (a b : List Touch) → AreInOrder a → AreTouchesUpto version a → Notes version a b → AreInOrder b
order_more version a b h u f = subst AreInOrder (sym f.added) (order_both version a f.more h u f.each)

pub order_front : (xs ys : List Touch) → AreInOrder (xs ++ ys) → AreInOrder xs
order_front [] ys h = tt
order_front (x ∷ xs) ys h = ((all_parts (λ (s : Touch). x.version ≤ s.version) xs ys h.0).0, order_front xs ys h.1)

pub order_behind : (xs ys : List Touch) → AreInOrder (xs ++ ys) → AreInOrder ys
order_behind [] ys h = h
order_behind (x ∷ xs) ys h = order_behind xs ys h.1

pub upto_more : (version : ℕ) (a b : List Touch) → AreTouchesUpto version a → Notes version a b → AreTouchesUpto version b
upto_more version a b u f = subst (AreTouchesUpto version) (sym f.added) (all_both (λ (t : Touch). t.version ≤ version) a f.more u (all_weaker (λ (t : Touch). t.version ≡ version) (λ (t : Touch). t.version ≤ version) (λ t e. omega arith) f.more f.each))

-- ---- rows that are kept

kept_all : (queue : List Touch) (oldest : ℕ) (key : Bytes) (rows : List Row) → AllByRecursion (λ (r : Row). IsNoted queue r.version key) rows → AreRowsKept queue oldest key rows
kept_all queue oldest key [] h = tt
kept_all queue oldest key (r ∷ rs) h = (inl h.0, h.1)

pub kept_in : (a b : List Touch) (oldest : ℕ) (key : Bytes) (rows : List Row) → ((t : Touch) → IsIn t a → IsIn t b) → AreRowsKept a oldest key rows → AreRowsKept b oldest key rows
kept_in a b oldest key [] f h = tt
kept_in a b oldest key (r ∷ rs) f h = (
  ⊎_elim (λ n. inl (f (touch r.version key) n)) (λ n. inr n) h.0,
  all_weaker (λ (s : Row). IsNoted a s.version key) (λ (s : Row). IsNoted b s.version key) (λ s n. f (touch s.version key) n) rs h.1,
)

all_but : (version : ℕ) (a b : List Touch) (key : Bytes) (rows : List Row) → ((t : Touch) → IsIn t a → IsIn t b) → AllByRecursion (λ (r : Row). IsNoted a r.version key) (without_rows version rows) → AreRowsNoted version b key rows → AllByRecursion (λ (r : Row). IsNoted b r.version key) rows
all_but version a b key [] f h n = tt
all_but version a b key (r ∷ rs) f h n = ⊎_elim
    (λ q. let t = eq-eqb r.version version q in (subst (λ v. IsNoted b v key) (sym q) (n.0 q), all_but version a b key rs f (subst (λ s. AllByRecursion (λ (x : Row). IsNoted a x.version key) (cond s (without_rows version rs) (r ∷ without_rows version rs))) t h) n.1))
    (λ q. let t = ne_eqb r.version version q in let k = subst (λ s. AllByRecursion (λ (x : Row). IsNoted a x.version key) (cond s (without_rows version rs) (r ∷ without_rows version rs))) t h in (f (touch r.version key) k.0, all_but version a b key rs f k.1 n.1))
    (cases_eq r.version version)

-- rows of the newest version are more
pub kept_more : (version oldest : ℕ) (a b : List Touch) (key : Bytes) (rows : List Row) → AreRising rows → AreRowsUpto version rows → ((t : Touch) → IsIn t a → IsIn t b) → AreRowsKept a oldest key (without_rows version rows) → AreRowsNoted version b key rows → AreRowsKept b oldest key rows
kept_more version oldest a b key [] h u f k n = tt
kept_more version oldest a b key (r ∷ rs) h u f k n = ⊎_elim
    (λ q. (inl (subst (λ v. IsNoted b v key) (sym q) (n.0 q)), alone rs q h.0 u.1))
    (λ q. let t = ne_eqb r.version version q in let m = subst (λ s. AreRowsKept a oldest key (cond s (without_rows version rs) (r ∷ without_rows version rs))) t k in (⊎_elim (λ x. inl (f (touch r.version key) x)) (λ x. inr x) m.0, all_but version a b key rs f m.1 n.1))
    (cases_eq r.version version)
  where
    alone : (ss : List Row) → r.version ≡ version → AllByRecursion (λ (s : Row). r.version < s.version) ss → AreRowsUpto version ss → AllByRecursion (λ (s : Row). IsNoted b s.version key) ss
    alone [] q l m = tt
    alone (s ∷ ss) q l m = let x = l.0 in let y = m.0 in absurd (omega arith)

all_cut : (version : ℕ) (a b : List Touch) (key : Bytes) (rows : List Row) → ((t : Touch) → IsIn t a → (t.version ≡ version → ⊥) → IsIn t b) → AllByRecursion (λ (r : Row). IsNoted a r.version key) rows → AllByRecursion (λ (r : Row). IsNoted b r.version key) (without_rows version rows)
all_cut version a b key [] f h = tt
all_cut version a b key (r ∷ rs) f h = ⊎_elim
    (λ q. let t = eq-eqb r.version version q in rw t (all_cut version a b key rs f h.1))
    (λ q. let t = ne_eqb r.version version q in rw t (f (touch r.version key) h.0 q, all_cut version a b key rs f h.1))
    (cases_eq r.version version)

-- the rows of a version go
pub kept_cut : (version oldest : ℕ) (a b : List Touch) (key : Bytes) (rows : List Row) → ((t : Touch) → IsIn t a → (t.version ≡ version → ⊥) → IsIn t b) → AreRowsKept a oldest key rows → AreRowsKept b oldest key (without_rows version rows)
kept_cut version oldest a b key [] f h = tt
kept_cut version oldest a b key (r ∷ rs) f h = ⊎_elim
    (λ q. let t = eq-eqb r.version version q in rw t (kept_all b oldest key (without_rows version rs) (all_cut version a b key rs f h.1)))
    (λ q. let t = ne_eqb r.version version q in rw t (⊎_elim (λ n. inl (f (touch r.version key) n q)) (λ n. inr n) h.0, all_cut version a b key rs f h.1))
    (cases_eq r.version version)

-- a row past the oldest version is in the queue
kept_past : (old oldest : ℕ) (a : List Touch) (key : Bytes) (rows : List Row) → old ≤ oldest → AreRowsKept a old key rows → AllByRecursion (λ (r : Row). oldest < r.version → IsNoted a r.version key) rows
kept_past old oldest a key [] l h = tt
kept_past old oldest a key (r ∷ rs) l h = (
  λ m. ⊎_elim (λ n. n) (λ n. let k = n.0 in absurd (omega arith)) h.0,
  all_weaker (λ (s : Row). IsNoted a s.version key) (λ (s : Row). oldest < s.version → IsNoted a s.version key) (λ s n m. n) rs h.1,
)

pub kept_noted : (version oldest : ℕ) (queue : List Touch) (key : Bytes) (rows : List Row) → oldest < version → AreRowsKept queue oldest key rows → AreRowsNoted version queue key rows
kept_noted version oldest queue key rows l h = all_weaker (λ (r : Row). oldest < r.version → IsNoted queue r.version key) (λ (r : Row). r.version ≡ version → IsNoted queue version key) (λ r n e. subst (λ v. IsNoted queue v key) e (n (omega arith))) rows (kept_past oldest oldest queue key rows (omega arith) h)

-- rows fall
pub kept_fallen : (old oldest : ℕ) (a b : List Touch) (key : Bytes) (rows : List Row) → AreRising rows → old ≤ oldest → ((t : Touch) → IsIn t a → oldest < t.version → IsIn t b) → AreRowsKept a old key rows → AreRowsKept b oldest key (forgotten oldest rows)
kept_fallen old oldest a b key rows h l f k =
    let rest = drop (rows_upto oldest rows) rows in
    let past = past_upto oldest rows h in
    let noted : AllByRecursion (λ (r : Row). IsNoted b r.version key) rest = all_two (λ (r : Row). oldest < r.version) (λ (r : Row). oldest < r.version → IsNoted a r.version key) (λ (r : Row). IsNoted b r.version key) (λ r m n. f (touch r.version key) (n m) m) rest past (all_drop (λ (r : Row). oldest < r.version → IsNoted a r.version key) (rows_upto oldest rows) rows (kept_past old oldest a key rows l k)) in
    ⊎_elim
    (λ s. subst (AreRowsKept b oldest key) (sym s.0) (kept_all b oldest key rest noted))
    (λ s. subst (AreRowsKept b oldest key) (sym s.1) (inr (s.2, s.3), noted))
    (left oldest rows h).shape

-- ---- what may fall

due_rows : (old oldest : ℕ) (queue : List Touch) (key : Bytes) (rows : List Row) → AreRising rows → old ≤ oldest → AreRowsKept queue old key rows → (forgotten oldest rows ≡ rows) ⊎ MayFall oldest queue key
due_rows old oldest queue key [] h l k = inl (past_stay oldest [] tt)
due_rows old oldest queue key (r ∷ rs) h l k = ⊎_elim
    (λ past. ⊎_elim
    (λ m. inl (past_stay oldest (r ∷ rs) (m, past)))
    (λ m. ⊎_elim (λ n. inr (r.version, m, n)) (λ n. inl (first_stays oldest r rs m n.1 past)) k.0)
    (cases_lt oldest r.version))
    (λ due. inr due)
    (behind rs h.1 k.1)
  where
    behind : (ss : List Row) → AreRising ss → AllByRecursion (λ (s : Row). IsNoted queue s.version key) ss → ArePast oldest ss ⊎ MayFall oldest queue key
    behind [] a n = inl tt
    behind (s ∷ ss) a n = ⊎_elim
        (λ m. inl (m, all_weaker (λ (x : Row). s.version < x.version) (λ (x : Row). oldest < x.version) (λ x w. omega arith) ss a.0))
        (λ m. inr (s.version, m, n.0))
        (cases_lt oldest s.version)

rising_each : (chains : List Chain) → AreChains chains → AllByRecursion (λ (c : Chain). AreRising c.rows) chains
rising_each [] h = tt
rising_each (c ∷ cs) h = (h.2, rising_each cs h.3)

pub due_all : (old oldest : ℕ) (queue : List Touch) (chains : List Chain) → AreChains chains → old ≤ oldest → ((key : Bytes) → AreRowsKept queue old key (rows_of chains key)) → AreDue oldest chains queue
due_all old oldest queue chains h l k = all_two (λ (c : Chain). AreRising c.rows) (λ (c : Chain). AreRowsKept queue old c.key c.rows) (λ (c : Chain). (forgotten oldest c.rows ≡ c.rows) ⊎ MayFall oldest queue c.key) (λ c r n. due_rows old oldest queue c.key c.rows r l n) chains (rising_each chains h) (each_chain (λ key rows. AreRowsKept queue old key rows) chains h k)

pub due_next : (oldest version : ℕ) (key : Bytes) (a b : List Touch) (chains : List Chain) → AreChains chains → a ≡ touch version key ∷ b → AreDue oldest chains a → AreDue oldest (changed_at (forgotten oldest) key chains) b
due_next oldest version key a b chains h e d = changed_all
    (λ k rows. AreRising rows × ((forgotten oldest rows ≡ rows) ⊎ MayFall oldest a k))
    (λ k rows. (forgotten oldest rows ≡ rows) ⊎ MayFall oldest b k)
    (forgotten oldest) key chains h
    (λ k rows s p. inl (forgotten_again oldest rows p.0))
    (λ k rows s p. ⊎_elim (λ q. inl q) (λ q. ⊎_elim (λ x. not_both (ap (λ (t : Touch). is_same t.key key) x ∙ same_itself key) s) (λ x. inr (q.0, q.1, x)) (subst (IsIn (touch q.0 k)) e q.2)) p.1)
    (all_two (λ (c : Chain). AreRising c.rows) (λ (c : Chain). (forgotten oldest c.rows ≡ c.rows) ⊎ MayFall oldest a c.key) (λ (c : Chain). AreRising c.rows × ((forgotten oldest c.rows ≡ c.rows) ⊎ MayFall oldest a c.key)) (λ c r n. (r, n)) chains (rising_each chains h) d)

-- nothing is left that falls
pub all_fallen : (oldest : ℕ) (queue : List Touch) (old new : List Chain) → AreChains new → AreTouchesPast oldest queue → AreDue oldest new queue → each_changed (forgotten oldest) new ≡ each_changed (forgotten oldest) old → new ≡ all_forgotten oldest old
all_fallen oldest queue old new h past due same =
    sym (each_stays (forgotten oldest) new h (all_weaker (λ (c : Chain). (forgotten oldest c.rows ≡ c.rows) ⊎ MayFall oldest queue c.key) (λ (c : Chain). forgotten oldest c.rows ≡ c.rows) (λ c d. ⊎_elim (λ q. q) (λ q. let l = q.1 in let m : oldest < q.0 = each_in (λ (t : Touch). oldest < t.version) (touch q.0 c.key) queue past q.2 in absurd (omega arith)) d) new due))
    ∙ same
    ∙ sym (forgotten_is oldest old)

pub falls_none : (oldest : ℕ) (queue : List Touch) → Falls oldest queue queue
falls_none oldest queue = record { gone = []; split = refl; each = tt }

pub falls_next : (oldest version : ℕ) (key : Bytes) (first a b : List Touch) → version ≤ oldest → a ≡ touch version key ∷ b → Falls oldest first a → Falls oldest first b
falls_next oldest version key first a b l e f = record {
  gone = f.gone ++ touch version key ∷ [];
  split = f.split ∙ ap (λ (ts : List Touch). f.gone ++ ts) e ∙ sym (assoc f.gone (touch version key ∷ []) b);
  each = all_both (λ (t : Touch). t.version ≤ oldest) f.gone (touch version key ∷ []) f.each (l, tt);
}

pub falls_in : (oldest : ℕ) (a b : List Touch) (t : Touch) → Falls oldest a b → IsIn t a → oldest < t.version → IsIn t b
falls_in oldest a b t f h l = ⊎_elim
    (λ g. let m : t.version ≤ oldest = each_in (λ (s : Touch). s.version ≤ oldest) t f.gone f.each g in absurd (omega arith))
    (λ g. g)
    (in_either t f.gone b (subst (IsIn t) f.split h))

-- ---- the newest version goes

gone_rows : (version : ℕ) (rows : List Row) → AllByRecursion (λ (r : Row). r.version ≡ version → ⊥) (without_rows version rows)
gone_rows version [] = tt
gone_rows version (r ∷ rs) = ⊎_elim
    (λ q. let t = eq-eqb r.version version q in rw t (gone_rows version rs))
    (λ q. let t = ne_eqb r.version version q in rw t (q, gone_rows version rs))
    (cases_eq r.version version)

pub without_none : (version : ℕ) (rows : List Row) → AllByRecursion (λ (r : Row). r.version ≡ version → ⊥) rows → without_rows version rows ≡ rows
without_none version [] h = refl
without_none version (r ∷ rs) h = let t = ne_eqb r.version version h.0 in rw t (ap (λ (xs : List Row). r ∷ xs) (without_none version rs h.1))

pub without_again : (version : ℕ) (rows : List Row) → without_rows version (without_rows version rows) ≡ without_rows version rows
without_again version rows = without_none version (without_rows version rows) (gone_rows version rows)

pub noted_next : (version : ℕ) (key : Bytes) (a b : List Touch) (chains : List Chain) → AreChains chains → a ≡ b ++ touch version key ∷ [] → AreNoted version chains a → AreNoted version (changed_at (without_rows version) key chains) b
noted_next version key a b chains h e n = changed_all
    (λ k rows. AreRowsNoted version a k rows)
    (λ k rows. AreRowsNoted version b k rows)
    (without_rows version) key chains h
    (λ k rows s p. all_weaker (λ (r : Row). r.version ≡ version → ⊥) (λ (r : Row). r.version ≡ version → IsNoted b version k) (λ r q g. absurd (q g)) (without_rows version rows) (gone_rows version rows))
    (λ k rows s p. all_weaker (λ (r : Row). r.version ≡ version → IsNoted a version k) (λ (r : Row). r.version ≡ version → IsNoted b version k) (λ r q g. other k s (in_either (touch version k) b (touch version key ∷ []) (subst (IsIn (touch version k)) e (q g)))) rows p)
    n
  where
    other : (k : Bytes) → is_same k key ≡ false → IsIn (touch version k) b ⊎ IsIn (touch version k) (touch version key ∷ []) → IsNoted b version k
    other k s (inl x) = x
    other k s (inr (inl x)) = not_both (ap (λ (t : Touch). is_same t.key key) x ∙ same_itself key) s
    other k s (inr (inr x)) = absurd x

pub upto_next : (version : ℕ) (key : Bytes) (chains : List Chain) → AreChains chains → AreUpto version chains → AreUpto version (changed_at (without_rows version) key chains)
upto_next version key chains h u = changed_all (λ k rows. AreRowsUpto version rows) (λ k rows. AreRowsUpto version rows) (without_rows version) key chains h (λ k rows s p. all_without (λ (r : Row). r.version ≤ version) version rows p) (λ k rows s p. p) u

pub notes_back : (version : ℕ) (key : Bytes) (first a b : List Touch) → a ≡ b ++ touch version key ∷ [] → Notes version a first → Notes version b first
notes_back version key first a b e f = notes_more version b a first (record { more = touch version key ∷ []; added = e; each = (refl, tt) }) f

pub all_gone : (version : ℕ) (queue : List Touch) (old new : List Chain) → AreChains new → AreTouchesBelow version queue → AreNoted version new queue → each_changed (without_rows version) new ≡ each_changed (without_rows version) old → new ≡ without version old
all_gone version queue old new h below noted same =
    sym (each_stays (without_rows version) new h (all_weaker (λ (c : Chain). AreRowsNoted version queue c.key c.rows) (λ (c : Chain). without_rows version c.rows ≡ c.rows) (λ c n. without_none version c.rows (all_weaker (λ (r : Row). r.version ≡ version → IsNoted queue version c.key) (λ (r : Row). r.version ≡ version → ⊥) (λ r g e. let l : version < version = each_in (λ (t : Touch). t.version < version) (touch version c.key) queue below (g e) in omega arith) c.rows n)) new noted))
    ∙ same
    ∙ sym (without_is version old)

-- ---- the ends of the queue

pub order_last : (queue : List Touch) (last : Touch) → AreInOrder queue → slice_get queue (length queue - 1) ≡ Some last → AreTouchesUpto last.version queue
order_last [] last h g = tt
order_last (x ∷ []) last h g = let same : x ≡ last = cc in (subst (λ (t : Touch). x.version ≤ t.version) same (omega arith), tt)
order_last (x ∷ y ∷ ys) last h g =
    let m : length (x ∷ y ∷ ys) - 1 ≡ suc (length (y ∷ ys) - 1) = omega arith in
    let rest = order_last (y ∷ ys) last h.1 (subst (λ i. slice_get (x ∷ y ∷ ys) i ≡ Some last) m g) in
    (let l = h.0.0 in let k = rest.0 in omega arith, rest)

pub newest_gone : (version : ℕ) (queue : List Touch) (last : Touch) → AreInOrder queue → AreTouchesUpto version queue → slice_get queue (length queue - 1) ≡ Some last → (last.version ≡ version → ⊥) → AreTouchesBelow version queue
newest_gone version queue last h u g n =
    let l : last.version ≤ version = all_at (λ (t : Touch). t.version ≤ version) queue (length queue - 1) last g u in
    let m : last.version < version = less last.version l n in
    all_weaker (λ (t : Touch). t.version ≤ last.version) (λ (t : Touch). t.version < version) (λ t k. omega arith) queue (order_last queue last h g)
  where
    less : (w : ℕ) → w ≤ version → (w ≡ version → ⊥) → w < version
    less w l n = ⊎_elim (λ x. x) (λ x. absurd (n (omega arith))) (cases_lt w version)

pub oldest_past : (upto : ℕ) (queue : List Touch) (first : Touch) → AreInOrder queue → slice_get queue 0 ≡ Some first → upto < first.version → AreTouchesPast upto queue
oldest_past upto [] first h g l = tt
oldest_past upto (x ∷ xs) first h g l =
    let same : x ≡ first = cc in
    let m : upto < x.version = subst (λ (t : Touch). upto < t.version) (sym same) l in
    (m, all_weaker (λ (t : Touch). x.version ≤ t.version) (λ (t : Touch). upto < t.version) (λ t k. omega arith) xs h.0)

-- ---- the newest version is cut, key by key

pub record Cutting (version : ℕ) (first : List Chain) (before : List Touch) (now : List Chain) (queue : List Touch) : Type 0 where
  pub chains : AreChains now
  pub upto : AreUpto version now
  pub same : each_changed (without_rows version) now ≡ each_changed (without_rows version) first
  pub noted : AreNoted version now queue
  pub order : AreInOrder queue
  pub newest : AreTouchesUpto version queue
  pub notes : Notes version queue before

pub cut_key : (version : ℕ) (key : Bytes) (first : List Chain) (before : List Touch) (chains new : List Chain) (queue rest : List Touch) → Cutting version first before chains queue → queue ≡ rest ++ touch version key ∷ [] → new ≡ changed_at (without_rows version) key chains → Cutting version first before new rest
cut_key version key first before chains new queue rest h e f = subst (λ (cs : List Chain). Cutting version first before cs rest) (sym f) (record {
  chains = chains_changed (without_rows version) key chains (rising_without version) h.chains;
  upto = upto_next version key chains h.chains h.upto;
  same = each_again (without_rows version) key chains (λ rows r. without_again version rows) h.chains ∙ h.same;
  noted = noted_next version key queue rest chains h.chains e h.noted;
  order = order_front rest (touch version key ∷ []) (subst AreInOrder e h.order);
  newest = (all_parts (λ (t : Touch). t.version ≤ version) rest (touch version key ∷ []) (subst (AreTouchesUpto version) e h.newest)).0;
  notes = notes_back version key before queue rest e h.notes;
})

pub cut_done : (version : ℕ) (first : List Chain) (before : List Touch) (chains : List Chain) (queue : List Touch) → Cutting version first before chains queue → AreTouchesBelow version queue → chains ≡ without version first
cut_done version first before chains queue h below = all_gone version queue first chains h.chains below h.noted h.same

pub shorter_front : (version : ℕ) (key : Bytes) (queue rest : List Touch) → queue ≡ rest ++ touch version key ∷ [] → length rest < length queue
shorter_front version key queue rest e = let n = ap length e ∙ length_both rest (touch version key ∷ []) in omega arith

-- ---- old versions are forgotten, key by key

pub record Forgetting (oldest : ℕ) (first : List Chain) (before : List Touch) (now : List Chain) (queue : List Touch) : Type 0 where
  pub chains : AreChains now
  pub same : each_changed (forgotten oldest) now ≡ each_changed (forgotten oldest) first
  pub due : AreDue oldest now queue
  pub order : AreInOrder queue
  pub falls : Falls oldest before queue

pub forget_key : (oldest version : ℕ) (key : Bytes) (first : List Chain) (before : List Touch) (chains new : List Chain) (queue rest : List Touch) → version ≤ oldest → Forgetting oldest first before chains queue → queue ≡ touch version key ∷ rest → new ≡ changed_at (forgotten oldest) key chains → Forgetting oldest first before new rest
forget_key oldest version key first before chains new queue rest l h e f = subst (λ (cs : List Chain). Forgetting oldest first before cs rest) (sym f) (record {
  chains = chains_changed (forgotten oldest) key chains (rising_left oldest) h.chains;
  same = each_again (forgotten oldest) key chains (forgotten_again oldest) h.chains ∙ h.same;
  due = due_next oldest version key queue rest chains h.chains e h.due;
  order = order_behind (touch version key ∷ []) rest (subst AreInOrder e h.order);
  falls = falls_next oldest version key before queue rest l e h.falls;
})

pub forget_done : (oldest : ℕ) (first : List Chain) (before : List Touch) (chains : List Chain) (queue : List Touch) → Forgetting oldest first before chains queue → AreTouchesPast oldest queue → chains ≡ all_forgotten oldest first
forget_done oldest first before chains queue h past = all_fallen oldest queue first chains h.chains past h.due h.same
