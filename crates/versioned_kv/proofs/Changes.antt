-- The rows of one key are changed, or those of each key.
use Rattle.std.proofs.Common.{◌≡◌, ℕ, zero, suc, ◌<◌, Bool, true, false, cond, List, [], ◌∷◌, ◌++◌, length, Option, Some, None, take, drop, refl, sym, ap, ◌∙◌, subst, arith}
use Rattle.std.specs.List.{slice_get, slice_set, AllByRecursion}
use Rattle.fb_bytes.specs.Bytes.{Bytes, is_below, is_same}
use Rattle.fb_bytes.proofs.Order.{not_both, below_trans, same_eq, same_itself, below_not_same, neither_below}
use Rattle.mutations.proofs.Basics.{by_test, all_weaker}
use Rattle.versioned_kv.specs.Chains.{Row, Chain, rows_of}
use Rattle.versioned_kv.specs.inner.Chains.{AreRising, AreChains, keys_below}
use Rattle.versioned_kv.specs.inner.Chunks.{joined, AreFilled, AreKeysBelow, AreKeysPast, BelongsTo}
use Rattle.versioned_kv.specs.Edits.{with_rows, without_rows, without}
use Rattle.versioned_kv.specs.inner.Edits.{changed_at, is_chain_of}
use Rattle.versioned_kv.specs.Forgotten.{forgotten, all_forgotten}
use Rattle.versioned_kv.proofs.Search.{all_at}
use Rattle.versioned_kv.proofs.Values.{above_not_same, later_keys}
use Rattle.versioned_kv.proofs.Cuts.{all_with, chains_with, rows_with}
use Rattle.versioned_kv.proofs.Touches.{all_two}
use Rattle.versioned_kv.proofs.Joined.{all_both, joined_both, parted, set_parted}
use Rattle.versioned_kv.proofs.Everywhere.{with_both}

-- ---- at a place

pub change_here : (f : List Row → List Row) (key : Bytes) (chains : List Chain) (place : ℕ) (chain : Chain) → AreChains chains → slice_get chains place ≡ Some chain → is_same chain.key key ≡ true → take place chains ++ with_rows chain.key (f chain.rows) (drop (suc place) chains) ≡ changed_at f key chains
change_here f key [] place chain h g s = cc
change_here f key (c ∷ cs) zero chain h g s =
    let same : c ≡ chain = cc in
    let t : is_same c.key key ≡ true = ap (λ (x : Chain). is_same x.key key) same ∙ s in
    rw t (ap (λ (x : Chain). with_rows x.key (f x.rows) cs) (sym same))
change_here f key (c ∷ cs) (suc place) chain h g s =
    let below : is_below c.key chain.key ≡ true = all_at (λ (d : Chain). is_below c.key d.key ≡ true) cs place chain g h.0 in
    let n : is_same c.key key ≡ false = below_not_same c.key key (subst (λ z. is_below c.key z ≡ true) (same_eq chain.key key s) below) in
    rw n (ap (λ (xs : List Chain). c ∷ xs) (change_here f key cs place chain h.3 g s))

-- no chain is the key's
pub change_past : (f : List Row → List Row) (key : Bytes) (chains : List Chain) → AreKeysPast key chains → changed_at f key chains ≡ chains
change_past f key [] h = refl
change_past f key (c ∷ cs) h = let n = above_not_same c.key key h.0 in rw n (ap (λ (xs : List Chain). c ∷ xs) (change_past f key cs h.1))

change_there : (f : List Row → List Row) (key : Bytes) (chains : List Chain) → AreChains chains → is_chain_of key (slice_get chains (keys_below key chains)) ≡ false → chains ≡ changed_at f key chains
change_there f key [] h e = refl
change_there f key (c ∷ cs) h e = step (is_below c.key key) refl (change_there f key cs h.3)
  where
    step : (b : Bool) → is_below c.key key ≡ b → (is_chain_of key (slice_get cs (keys_below key cs)) ≡ false → cs ≡ changed_at f key cs) → (c ∷ cs) ≡ changed_at f key (c ∷ cs)
    step true t ih =
        let n = below_not_same c.key key t in
        let e' : is_chain_of key (slice_get cs (keys_below key cs)) ≡ false = subst (λ b. is_chain_of key (slice_get (c ∷ cs) (cond b (suc (keys_below key cs)) zero)) ≡ false) t e in
        rw n (ap (λ (xs : List Chain). c ∷ xs) (ih e'))
    step false t ih =
        let n : is_same c.key key ≡ false = subst (λ b. is_chain_of key (slice_get (c ∷ cs) (cond b (suc (keys_below key cs)) zero)) ≡ false) t e in
        let below : is_below key c.key ≡ true = by_cases n (is_below key c.key) refl in
        rw n (ap (λ (xs : List Chain). c ∷ xs) (sym (change_past f key cs (all_weaker (λ (d : Chain). is_below c.key d.key ≡ true) (λ (d : Chain). is_below key d.key ≡ true) (λ d w. below_trans key c.key d.key below w) cs h.0))))
      where
        by_cases : is_same c.key key ≡ false → (b : Bool) → is_below key c.key ≡ b → is_below key c.key ≡ true
        by_cases n true w = w
        by_cases n false w = not_both (subst (λ z. is_same c.key z ≡ true) (neither_below c.key key t w) (same_itself c.key)) n

pub change_none : (f : List Row → List Row) (key : Bytes) (chains : List Chain) (place : ℕ) → AreChains chains → place ≡ keys_below key chains → is_chain_of key (slice_get chains place) ≡ false → chains ≡ changed_at f key chains
change_none f key chains place h e n = change_there f key chains h (ap (λ i. is_chain_of key (slice_get chains i)) (sym e) ∙ n)

-- ---- in chunks

change_joined : (f : List Row → List Row) (key : Bytes) (before chunk behind : List Chain) → AreKeysBelow key before → AreKeysPast key behind → changed_at f key (before ++ (chunk ++ behind)) ≡ before ++ (changed_at f key chunk ++ behind)
change_joined f key [] chunk behind b p = in_chunk chunk
  where
    in_chunk : (xs : List Chain) → changed_at f key (xs ++ behind) ≡ changed_at f key xs ++ behind
    in_chunk [] = change_past f key behind p
    in_chunk (x ∷ xs) = go (is_same x.key key) refl (in_chunk xs)
      where
        go : (s : Bool) → is_same x.key key ≡ s → changed_at f key (xs ++ behind) ≡ changed_at f key xs ++ behind → changed_at f key (x ∷ xs ++ behind) ≡ changed_at f key (x ∷ xs) ++ behind
        go true e ih = rw e (with_both x.key (f x.rows) xs behind)
        go false e ih = rw e (ap (λ (cs : List Chain). x ∷ cs) ih)
change_joined f key (c ∷ cs) chunk behind b p = let e = below_not_same c.key key b.0 in rw e (ap (λ (xs : List Chain). c ∷ xs) (change_joined f key cs chunk behind b.1 p))

pub change_belongs : (f : List Row → List Row) (key : Bytes) (place : ℕ) (chunks : List (List Chain)) (chunk : List Chain) → place < length chunks → BelongsTo key place chunks → slice_get chunks place ≡ Some chunk → joined (slice_set chunks place (changed_at f key chunk)) ≡ changed_at f key (joined chunks)
change_belongs f key place chunks chunk l b g =
    set_parted place chunks (changed_at f key chunk) l
    ∙ sym (ap (changed_at f key) (parted place chunks chunk g) ∙ change_joined f key (joined (take place chunks)) chunk (joined (drop (suc place) chunks)) b.before b.behind)

-- ---- a chunk that may be empty

pub filled_take : (place : ℕ) (chunks : List (List Chain)) → AreFilled chunks → AreFilled (take place chunks)
filled_take zero [] h = tt
filled_take zero (x ∷ xs) h = tt
filled_take (suc place) [] h = tt
filled_take (suc place) (x ∷ xs) h = (h.0, filled_take place xs h.1)

pub filled_drop : (place : ℕ) (chunks : List (List Chain)) → AreFilled chunks → AreFilled (drop place chunks)
filled_drop zero [] h = tt
filled_drop zero (x ∷ xs) h = h
filled_drop (suc place) [] h = tt
filled_drop (suc place) (x ∷ xs) h = filled_drop place xs h.1

pub take_set : {A : Type 0} (place : ℕ) (xs : List A) (x : A) → take place (slice_set xs place x) ≡ take place xs
take_set zero [] x = refl
take_set zero (y ∷ ys) x = refl
take_set (suc place) [] x = refl
take_set (suc place) (y ∷ ys) x = ap (λ zs. y ∷ zs) (take_set place ys x)

pub drop_set : {A : Type 0} (place : ℕ) (xs : List A) (x : A) → drop (suc place) (slice_set xs place x) ≡ drop (suc place) xs
drop_set zero [] x = refl
drop_set zero (y ∷ ys) x = refl
drop_set (suc place) [] x = refl
drop_set (suc place) (y ∷ ys) x = drop_set place ys x

pub filled_without : (place : ℕ) (chunks : List (List Chain)) → AreFilled (take place chunks) → AreFilled (drop (suc place) chunks) → AreFilled (take place chunks ++ drop (suc place) chunks)
filled_without place chunks h k = all_both (λ (chunk : List Chain). 0 < length chunk) (take place chunks) (drop (suc place) chunks) h k

pub joined_without : (place : ℕ) (chunks : List (List Chain)) (chunk : List Chain) → slice_get chunks place ≡ Some chunk → length chunk ≡ 0 → joined (take place chunks ++ drop (suc place) chunks) ≡ joined chunks
joined_without place chunks [] g n = joined_both (take place chunks) (drop (suc place) chunks) ∙ sym (parted place chunks [] g)
joined_without place chunks (c ∷ cs) g n = absurd (omega arith)

pub filled_all : (place : ℕ) (chunks : List (List Chain)) (chunk : List Chain) → slice_get chunks place ≡ Some chunk → 0 < length chunk → AreFilled (take place chunks) → AreFilled (drop (suc place) chunks) → AreFilled chunks
filled_all place [] chunk g l h k = cc
filled_all zero (x ∷ xs) chunk g l h k = let same : x ≡ chunk = cc in (subst (λ (c : List Chain). 0 < length c) (sym same) l, k)
filled_all (suc place) (x ∷ xs) chunk g l h k = (h.0, filled_all place xs chunk g l h.1 k)

-- ---- what the chains have then

pub changed_all : (P Q : Bytes → List Row → Type 0) (f : List Row → List Row) (key : Bytes) (chains : List Chain) → AreChains chains → ((k : Bytes) (rows : List Row) → is_same k key ≡ true → P k rows → Q k (f rows)) → ((k : Bytes) (rows : List Row) → is_same k key ≡ false → P k rows → Q k rows) → AllByRecursion (λ (c : Chain). P c.key c.rows) chains → AllByRecursion (λ (c : Chain). Q c.key c.rows) (changed_at f key chains)
changed_all P Q f key [] h at other p = tt
changed_all P Q f key (c ∷ cs) h at other p = by_test (is_same c.key key) (AllByRecursion (λ (d : Chain). Q d.key d.rows)) (with_rows c.key (f c.rows) cs) (c ∷ changed_at f key cs)
    (λ e. all_with (λ (d : Chain). Q d.key d.rows) c.key (f c.rows) cs (at c.key c.rows e p.0)
    (all_two (λ (d : Chain). is_below c.key d.key ≡ true) (λ (d : Chain). P d.key d.rows) (λ (d : Chain). Q d.key d.rows)
    (λ d b q. other d.key d.rows (above_not_same d.key key (subst (λ z. is_below z d.key ≡ true) (same_eq c.key key e) b)) q) cs h.0 p.1))
    (λ e. (other c.key c.rows e p.0, changed_all P Q f key cs h.3 at other p.1))

keys_changed : (P : Bytes → Type 0) (f : List Row → List Row) (key : Bytes) (chains : List Chain) → AllByRecursion (λ (c : Chain). P c.key) chains → AllByRecursion (λ (c : Chain). P c.key) (changed_at f key chains)
keys_changed P f key [] h = tt
keys_changed P f key (c ∷ cs) h = by_test (is_same c.key key) (AllByRecursion (λ (d : Chain). P d.key)) (with_rows c.key (f c.rows) cs) (c ∷ changed_at f key cs)
    (λ e. all_with (λ (d : Chain). P d.key) c.key (f c.rows) cs h.0 h.1)
    (λ e. (h.0, keys_changed P f key cs h.1))

pub chains_changed : (f : List Row → List Row) (key : Bytes) (chains : List Chain) → ((rows : List Row) → AreRising rows → AreRising (f rows)) → AreChains chains → AreChains (changed_at f key chains)
chains_changed f key [] r h = tt
chains_changed f key (c ∷ cs) r h = by_test (is_same c.key key) AreChains (with_rows c.key (f c.rows) cs) (c ∷ changed_at f key cs)
    (λ e. chains_with c.key (f c.rows) cs h.0 (r c.rows h.2) h.3)
    (λ e. (keys_changed (λ k. is_below c.key k ≡ true) f key cs h.0, h.1, h.2, chains_changed f key cs r h.3))

-- ---- the rows of each key

abbrev pub each_changed : (List Row → List Row) → List Chain → List Chain
each_changed f [] = []
each_changed f (c ∷ cs) = with_rows c.key (f c.rows) (each_changed f cs)

pub without_is : (version : ℕ) (chains : List Chain) → without version chains ≡ each_changed (without_rows version) chains
without_is version [] = refl
without_is version (c ∷ cs) = ap (with_rows c.key (without_rows version c.rows)) (without_is version cs)

pub forgotten_is : (oldest : ℕ) (chains : List Chain) → all_forgotten oldest chains ≡ each_changed (forgotten oldest) chains
forgotten_is oldest [] = refl
forgotten_is oldest (c ∷ cs) = ap (with_rows c.key (forgotten oldest c.rows)) (forgotten_is oldest cs)

with_again : (f : List Row → List Row) (key : Bytes) (rows : List Row) (rest : List Chain) → f rows ≡ rows → each_changed f (with_rows key rows rest) ≡ with_rows key rows (each_changed f rest)
with_again f key [] rest e = refl
with_again f key (r ∷ rs) rest e = ap (λ (rows : List Row). with_rows key rows (each_changed f rest)) e

-- what was changed at one key is changed at each key all the same
pub each_again : (f : List Row → List Row) (key : Bytes) (chains : List Chain) → ((rows : List Row) → AreRising rows → f (f rows) ≡ f rows) → AreChains chains → each_changed f (changed_at f key chains) ≡ each_changed f chains
each_again f key [] a h = refl
each_again f key (c ∷ cs) a h = go (is_same c.key key) refl (each_again f key cs a h.3)
  where
    go : (s : Bool) → is_same c.key key ≡ s → each_changed f (changed_at f key cs) ≡ each_changed f cs → each_changed f (changed_at f key (c ∷ cs)) ≡ each_changed f (c ∷ cs)
    go true e ih = rw e (with_again f c.key (f c.rows) cs (a c.rows h.2))
    go false e ih = rw e (ap (with_rows c.key (f c.rows)) ih)

pub each_stays : (f : List Row → List Row) (chains : List Chain) → AreChains chains → AllByRecursion (λ (c : Chain). f c.rows ≡ c.rows) chains → each_changed f chains ≡ chains
each_stays f [] h s = refl
each_stays f (c ∷ cs) h s = ap (λ (rs : List Row). with_rows c.key rs (each_changed f cs)) s.0 ∙ ap (with_rows c.key c.rows) (each_stays f cs h.3 s.1) ∙ whole c.rows h.1
  where
    whole : (rows : List Row) → 0 < length rows → with_rows c.key rows cs ≡ record { key = c.key; rows = rows } ∷ cs
    whole [] l = absurd (omega arith)
    whole (r ∷ rs) l = refl

pub all_each : (P : Bytes → List Row → Type 0) (f : List Row → List Row) (chains : List Chain) → ((k : Bytes) (rows : List Row) → P k rows → P k (f rows)) → AllByRecursion (λ (c : Chain). P c.key c.rows) chains → AllByRecursion (λ (c : Chain). P c.key c.rows) (each_changed f chains)
all_each P f [] k h = tt
all_each P f (c ∷ cs) k h = all_with (λ (d : Chain). P d.key d.rows) c.key (f c.rows) (each_changed f cs) (k c.key c.rows h.0) (all_each P f cs k h.1)

pub chains_each : (f : List Row → List Row) (chains : List Chain) → ((rows : List Row) → AreRising rows → AreRising (f rows)) → AreChains chains → AreChains (each_changed f chains)
chains_each f [] r h = tt
chains_each f (c ∷ cs) r h = chains_with c.key (f c.rows) (each_changed f cs) (all_each (λ k rows. is_below c.key k ≡ true) f cs (λ k rows b. b) h.0) (r c.rows h.2) (chains_each f cs r h.3)

pub rows_each : (f : List Row → List Row) (chains : List Chain) (k : Bytes) → f [] ≡ [] → AreChains chains → rows_of (each_changed f chains) k ≡ f (rows_of chains k)
rows_each f [] k e h = sym e
rows_each f (c ∷ cs) k e h = rows_with c.key (f c.rows) (each_changed f cs) k none ∙ split (is_same c.key k) (rows_each f cs k e h.3)
  where
    none : is_same c.key k ≡ true → rows_of (each_changed f cs) k ≡ []
    none s = later_keys k (each_changed f cs) (subst (λ z. AllByRecursion (λ (d : Chain). is_below z d.key ≡ true) (each_changed f cs)) (same_eq c.key k s) (all_each (λ q rows. is_below c.key q ≡ true) f cs (λ q rows b. b) h.0))

    split : (b : Bool) → rows_of (each_changed f cs) k ≡ f (rows_of cs k) → cond b (f c.rows) (rows_of (each_changed f cs) k) ≡ f (cond b c.rows (rows_of cs k))
    split true ih = refl
    split false ih = ih

-- ---- what a call of one key leaves

pub change_from : (f : List Row → List Row) (key : Bytes) (chains new : List Chain) (place : ℕ) → AreChains chains → is_chain_of key (slice_get chains place) ≡ true → ((chain : Chain) → slice_get chains place ≡ Some chain → new ≡ take place chains ++ with_rows chain.key (f chain.rows) (drop (suc place) chains)) → new ≡ changed_at f key chains
change_from f key chains new place h t told = go (slice_get chains place) refl
  where
    go : (o : Option Chain) → slice_get chains place ≡ o → new ≡ changed_at f key chains
    go None g = not_both t (ap (is_chain_of key) g)
    go (Some chain) g = told chain g ∙ change_here f key chains place chain h g (ap (is_chain_of key) (sym g) ∙ t)

set_len : {A : Type 0} (place : ℕ) (xs : List A) (x : A) → length (slice_set xs place x) ≡ length xs
set_len zero [] x = refl
set_len zero (y ∷ ys) x = refl
set_len (suc place) [] x = refl
set_len (suc place) (y ∷ ys) x = ap suc (set_len place ys x)

-- the other chunks have keys
pub others_filled : (place : ℕ) (chunks new : List (List Chain)) (chunk : List Chain) → place < length chunks → AreFilled chunks → new ≡ slice_set chunks place chunk → (place < length new) × AreFilled (take place new) × AreFilled (drop (suc place) new)
others_filled place chunks new chunk l h e = (
  let n = ap length e ∙ set_len place chunks chunk in omega arith,
  subst AreFilled (sym (ap (take place) e ∙ take_set place chunks chunk)) (filled_take place chunks h),
  subst AreFilled (sym (ap (drop (suc place)) e ∙ drop_set place chunks chunk)) (filled_drop (suc place) chunks h),
)
