-- One more batch in the table.
use Rattle.std.proofs.Common.{◌≡◌, ℕ, zero, suc, ◌+◌, ◌<◌, Bool, true, false, ◌&&◌, ◌||◌, cond, eqb, ltb, List, [], ◌∷◌, ◌++◌, length, take, drop, refl, sym, ap, ◌∙◌, append_assoc, Ok, arith}
use Rattle.std.specs.List.{AllByRecursion, flat_map}
use Rattle.std.proofs.lemmas.Bool.{cond-true, cond-false}
use Rattle.fb_bytes.specs.Bytes.{Bytes}
use Rattle.mutations.specs.declared.mutation.Mutation.{Mutation}
use Rattle.mutations.specs.Reading.{decoded}
use Rattle.mutations.proofs.Spellings.{decoded_again}
use Rattle.mutations.proofs.Basics.{by_test, all_weaker}
use Rattle.log_keys.specs.Keys.{Key, is_key_below}
use Rattle.log_keys.specs.inner.Keys.{first_at}
use Rattle.log_keys.specs.Logs.{Standing, Spells, IsBatch, with_one, stands}
use Rattle.mutations.specs.Cutting.{pieces_of}
use Rattle.mutations.proofs.Cutting.{are_cut}
use Rattle.log_keys.specs.inner.Parts.{Row, rows_from, spelled}
use Rattle.log_keys.specs.inner.Table.{Group, standing_of, muts_or_none, muts_in, log_in, rows_of, IsRead, is_group_before, AreInOrder, IsWhole, IsTable, keys_below}
use Rattle.log_keys.proofs.Orders.{before_trans, before_back, below_before, below_not, or_parts}
use Rattle.log_keys.proofs.Groups.{whole_in, table_of, log_of, log_is}

abbrev pub with_group : Group → List Group → List Group
with_group group [] = group ∷ []
with_group group (other ∷ others) = cond (is_group_before group.job group.version other) (other ∷ with_group group others) (group ∷ other ∷ others)

abbrev first_key : Group → Key
first_key group = first_at group.job group.version

-- not of the job and version
abbrev AreOthers : ℕ → ℕ → List Group → Type 0
AreOthers job version groups = AllByRecursion (λ (g : Group). (eqb g.job job && eqb g.version version) ≡ false) groups

others_from : (job version : ℕ) (groups : List Group) → stands job version (log_of groups) ≡ false → AreOthers job version groups
others_from job version [] h = tt
others_from job version (g ∷ gs) h =
    let p = or_parts (eqb g.job job && eqb g.version version) (stands job version (log_of gs)) h in
    (p.0, others_from job version gs p.1)

-- ---- order

all_with : (P : Group → Type 0) (group : Group) (groups : List Group) → P group → AllByRecursion P groups → AllByRecursion P (with_group group groups)
all_with P group [] p h = (p, tt)
all_with P group (g ∷ gs) p h =
    by_test (is_group_before group.job group.version g) (AllByRecursion P) (g ∷ with_group group gs) (group ∷ g ∷ gs) (λ e. (h.0, all_with P group gs p h.1)) (λ e. (p, h))

order_with : (group : Group) (groups : List Group) → AreInOrder groups → AreOthers group.job group.version groups → AreInOrder (with_group group groups)
order_with group [] h others = (tt, tt)
order_with group (g ∷ gs) h others =
    by_test (is_group_before group.job group.version g) AreInOrder (g ∷ with_group group gs) (group ∷ g ∷ gs)
    (λ e. (all_with (λ (later : Group). is_group_before later.job later.version g ≡ true) group gs e h.0, order_with group gs h.1 others.1))
    (λ e.
    let back = before_back g.job g.version group.job group.version e others.0 in (
      (
        back,
        all_weaker (λ (later : Group). is_group_before later.job later.version g ≡ true) (λ (later : Group). is_group_before later.job later.version group ≡ true)
            (λ later more. before_trans group.job group.version g.job g.version later.job later.version back more) gs h.0,
      ),
      h,
    ))

-- ---- places

place_behind : (key : Key) (job version n : ℕ) (pieces : List Bytes) (rest : List Row) → (ltb job key.job || (eqb job key.job && ltb version key.version)) ≡ true
    → (take (keys_below key (rows_from job version n pieces ++ rest)) (rows_from job version n pieces ++ rest) ≡ rows_from job version n pieces ++ take (keys_below key rest) rest)
    × (drop (keys_below key (rows_from job version n pieces ++ rest)) (rows_from job version n pieces ++ rest) ≡ drop (keys_below key rest) rest)
place_behind key job version n [] rest e = (refl, refl)
place_behind key job version n (p ∷ ps) rest e =
    let row : Row = record { key = record { job = job; version = version; part = n }; piece = p } in
    let all = rows_from job version (n + 1) ps ++ rest in
    let below = below_before (ltb job key.job) (eqb job key.job) (ltb version key.version) (eqb version key.version) (ltb n key.part) e in
    let next : keys_below key (row ∷ all) ≡ suc (keys_below key all) = cond-true (is_key_below row.key key) (suc (keys_below key all)) zero below in
    let ih = place_behind key job version (n + 1) ps rest e in
    (ap (λ k. take k (row ∷ all)) next ∙ ap (λ (rows : List Row). row ∷ rows) ih.0, ap (λ k. drop k (row ∷ all)) next ∙ ih.1)

place_front : (key : Key) (job version : ℕ) (pieces : List Bytes) (rest : List Row) → 0 < length pieces → (ltb job key.job || (eqb job key.job && ltb version key.version)) ≡ false → (eqb job key.job && eqb version key.version) ≡ false → keys_below key (rows_from job version 0 pieces ++ rest) ≡ 0
place_front key job version [] rest some h g = absurd (omega arith)
place_front key job version (p ∷ ps) rest some h g =
    cond-false (is_key_below (record { job = job; version = version; part = 0 }) key) (suc (keys_below key (rows_from job version 1 ps ++ rest))) zero
    (below_not (ltb job key.job) (eqb job key.job) (ltb version key.version) (eqb version key.version) (ltb 0 key.part) h g)

abbrev with_rows : Key → List Row → List Row → List Row
with_rows key more rows = take (keys_below key rows) rows ++ more ++ drop (keys_below key rows) rows

rows_with : (group : Group) (groups : List Group) → AllByRecursion IsWhole groups → AreOthers group.job group.version groups → with_rows (first_key group) (rows_of group) (flat_map rows_of groups) ≡ flat_map rows_of (with_group group groups)
rows_with group [] whole others = refl
rows_with group (g ∷ gs) whole others =
    let key = first_key group in
    let rest = flat_map rows_of gs in
    let all = rows_of g ++ rest in
    by_test (is_group_before group.job group.version g) (λ (left : List Group). with_rows key (rows_of group) all ≡ flat_map rows_of left) (g ∷ with_group group gs) (group ∷ g ∷ gs)
    (λ e.
    let p = place_behind key g.job g.version 0 g.pieces rest e in
    ap (λ (rows : List Row). rows ++ rows_of group ++ drop (keys_below key all) all) p.0
    ∙ ap (λ (rows : List Row). rows_of g ++ take (keys_below key rest) rest ++ rows_of group ++ rows) p.1
    ∙ ap (λ (rows : List Row). rows ++ drop (keys_below key rest) rest) (append_assoc (rows_of g) (take (keys_below key rest) rest) (rows_of group))
    ∙ append_assoc (rows_of g) (take (keys_below key rest) rest ++ rows_of group) (drop (keys_below key rest) rest)
    ∙ ap (λ (rows : List Row). rows_of g ++ rows) (rows_with group gs whole.1 others.1))
    (λ e. ap (λ (k : ℕ). take k all ++ rows_of group ++ drop k all) (place_front key g.job g.version g.pieces rest whole.0.some e others.0))

-- ---- the log

with_cond : (b : Bool) (group g : Group) (gs more : List Group) (log : List Standing) → log ≡ log_of more → cond b (standing_of (whole_in g) ∷ log) (standing_of (whole_in group) ∷ standing_of (whole_in g) ∷ log_of gs) ≡ log_of (cond b (g ∷ more) (group ∷ g ∷ gs))
with_cond true group g gs more log e = ap (λ (xs : List Standing). standing_of (whole_in g) ∷ xs) e
with_cond false group g gs more log e = refl

log_with : (group : Group) (groups : List Group) → with_one (standing_of (whole_in group)) (log_of groups) ≡ log_of (with_group group groups)
log_with group [] = refl
log_with group (g ∷ gs) = with_cond (is_group_before group.job group.version g) group g gs (with_group group gs) (with_one (standing_of (whole_in group)) (log_of gs)) (log_with group gs)

-- ---- pieces

abbrev pub group_at : ℕ → ℕ → ℕ → Bytes → Group
group_at job version part batch = record { job = job; version = version; pieces = pieces_of part batch }

spell_is : (part : ℕ) (batch : Bytes) → 0 < part → spelled (pieces_of part batch) ≡ batch
spell_is part batch some = (are_cut part batch some).whole

group_is : (job version part : ℕ) (batch : Bytes) → 0 < part → IsRead batch → IsWhole (group_at job version part batch)
group_is job version part batch some read = record { some = (are_cut part batch some).some; read = (read.0, ap decoded (spell_is part batch some) ∙ read.1) }

-- what is spelled is read
read_of : (bytes : Bytes) (muts : List Mutation) → Spells bytes muts → decoded bytes ≡ Ok muts
read_of bytes muts s = ap decoded s.are ∙ decoded_again muts s.has

read_is : (bytes : Bytes) → IsBatch bytes → IsRead bytes
read_is bytes b = (b.0, read_of bytes b.0 b.1)

-- ---- the table

abbrev pub put_rows : ℕ → ℕ → ℕ → Bytes → List Row → List Row
put_rows job version part batch rows = take (keys_below (first_at job version) rows) rows ++ rows_from job version 0 (pieces_of part batch) ++ drop (keys_below (first_at job version) rows) rows

others_in : (job version : ℕ) (rows : List Row) → (t : IsTable rows) → stands job version (log_in rows) ≡ false → AreOthers job version t.groups
others_in job version rows t free = others_from job version t.groups (ap (stands job version) (sym (log_is rows t)) ∙ free)

pub table_with : (job version part : ℕ) (batch : Bytes) (rows : List Row) → 0 < part → IsBatch batch → IsTable rows → stands job version (log_in rows) ≡ false → IsTable (put_rows job version part batch rows)
table_with job version part batch rows some read t free =
    let group = group_at job version part batch in
    let others = others_in job version rows t free in
    table_of (put_rows job version part batch rows) (with_group group t.groups)
    (ap (with_rows (first_at job version) (rows_of group)) t.are ∙ rows_with group t.groups t.whole others)
    (order_with group t.groups t.order others)
    (all_with IsWhole group t.groups (group_is job version part batch some (read_is batch read)) t.whole)

pub log_put : (job version part : ℕ) (batch : Bytes) (rows : List Row) → 0 < part → IsTable rows → stands job version (log_in rows) ≡ false → (muts : List Mutation) → Spells batch muts → log_in (put_rows job version part batch rows) ≡ with_one (record { job = job; version = version; muts = muts }) (log_in rows)
unfolding table_with
log_put job version part batch rows some t free muts s =
    let group = group_at job version part batch in
    let made : List Mutation → Standing = λ xs. record { job = job; version = version; muts = xs } in
    let told : muts_in (spelled (pieces_of part batch)) ≡ muts = ap muts_in (spell_is part batch some) ∙ ap muts_or_none (read_of batch muts s) in
    log_is (put_rows job version part batch rows) (table_with job version part batch rows some (muts, s) t free)
    ∙ sym (log_with group t.groups)
    ∙ ap (λ (xs : List Mutation). with_one (record { job = job; version = version; muts = xs }) (log_of t.groups)) told
    ∙ ap (with_one (record { job = job; version = version; muts = muts })) (sym (log_is rows t))
