-- Parts of whole batches: what they are joined to, and what is left where some are taken out.
use Rattle.std.proofs.Common.{◌≡◌, ℕ, ◌+◌, ◌<◌, Bool, true, false, ◌||◌, eqb, ltb, List, [], ◌∷◌, ◌++◌, length, map, refl, sym, ap, ◌∙◌, subst, append_assoc, arith}
use Rattle.std.specs.List.{All, AllByRecursion, filter, flat_map}
use Rattle.std.proofs.lemmas.Bool.{cond-true, cond-false}
use Rattle.std.proofs.lemmas.List.{append-nil}
use Rattle.std.proofs.lemmas.List.Elements.{All-from_recursion}
use Rattle.fb_bytes.specs.Bytes.{Bytes}
use Rattle.mutations.proofs.Basics.{by_test, all_weaker}
use Rattle.log_keys.specs.Keys.{is_key_below}
use Rattle.log_keys.specs.Logs.{Standing, is_before, stands, AreOrdered, is_between, batch_of, batches_between}
use Rattle.log_keys.specs.inner.Parts.{Row, rows_from, spelled}
use Rattle.log_keys.specs.inner.Table.{Whole, Group, joined_onto, joined, standing_of, batch_in, log_in, rows_of, IsRead, is_group_before, AreInOrder, AreRising, IsWhole, IsTable, has_part, rows_between}
use Rattle.log_keys.proofs.Orders.{before, same, below_before, below_part, before_not_same, same_itself, all_filter, filter-map, map-map}

abbrev pub row_test : (ℕ → ℕ → Bool) → Row → Bool
row_test test row = test row.key.job row.key.version

abbrev pub group_test : (ℕ → ℕ → Bool) → Group → Bool
group_test test group = test group.job group.version

abbrev pub standing_test : (ℕ → ℕ → Bool) → Standing → Bool
standing_test test one = test one.job one.version

abbrev part_at : ℕ → ℕ → ℕ → Bytes → Row
part_at job version part piece = record { key = record { job = job; version = version; part = part }; piece = piece }

-- ---- some are taken out

filter_kept : (test : ℕ → ℕ → Bool) (job version n : ℕ) (pieces : List Bytes) (rest : List Row) → test job version ≡ true → filter (row_test test) (rows_from job version n pieces ++ rest) ≡ rows_from job version n pieces ++ filter (row_test test) rest
filter_kept test job version n [] rest e = refl
filter_kept test job version n (p ∷ ps) rest e =
    cond-true (test job version) _ _ e ∙ ap (λ (rows : List Row). part_at job version n p ∷ rows) (filter_kept test job version (n + 1) ps rest e)

filter_lost : (test : ℕ → ℕ → Bool) (job version n : ℕ) (pieces : List Bytes) (rest : List Row) → test job version ≡ false → filter (row_test test) (rows_from job version n pieces ++ rest) ≡ filter (row_test test) rest
filter_lost test job version n [] rest e = refl
filter_lost test job version n (p ∷ ps) rest e = cond-false (test job version) _ _ e ∙ filter_lost test job version (n + 1) ps rest e

filter_rows : (test : ℕ → ℕ → Bool) (groups : List Group) → filter (row_test test) (flat_map rows_of groups) ≡ flat_map rows_of (filter (group_test test) groups)
filter_rows test [] = refl
filter_rows test (g ∷ gs) =
    by_test (test g.job g.version) (λ (left : List Group). filter (row_test test) (flat_map rows_of (g ∷ gs)) ≡ flat_map rows_of left) (g ∷ filter (group_test test) gs) (filter (group_test test) gs)
    (λ e. filter_kept test g.job g.version 0 g.pieces (flat_map rows_of gs) e ∙ ap (λ (rows : List Row). rows_of g ++ rows) (filter_rows test gs))
    (λ e. filter_lost test g.job g.version 0 g.pieces (flat_map rows_of gs) e ∙ filter_rows test gs)

order_filter : (test : Group → Bool) (groups : List Group) → AreInOrder groups → AreInOrder (filter test groups)
order_filter test [] h = tt
order_filter test (g ∷ gs) h =
    by_test (test g) AreInOrder (g ∷ filter test gs) (filter test gs)
    (λ e. (all_filter (λ (later : Group). is_group_before later.job later.version g ≡ true) test gs h.0, order_filter test gs h.1))
    (λ e. order_filter test gs h.1)

-- ---- keys rise

behind_pieces : (a b job version n : ℕ) (pieces : List Bytes) (rest : List Row) → before a b job version ≡ true → AllByRecursion (λ (row : Row). before a b row.key.job row.key.version ≡ true) rest → AllByRecursion (λ (row : Row). before a b row.key.job row.key.version ≡ true) (rows_from job version n pieces ++ rest)
behind_pieces a b job version n [] rest e h = h
behind_pieces a b job version n (p ∷ ps) rest e h = (e, behind_pieces a b job version (n + 1) ps rest e h)

behind : (a b : ℕ) (groups : List Group) → AllByRecursion (λ (g : Group). before a b g.job g.version ≡ true) groups → AllByRecursion (λ (row : Row). before a b row.key.job row.key.version ≡ true) (flat_map rows_of groups)
behind a b [] h = tt
behind a b (g ∷ gs) h = behind_pieces a b g.job g.version 0 g.pieces (flat_map rows_of gs) h.0 (behind a b gs h.1)

later_pieces : (job version m n : ℕ) (pieces : List Bytes) (rest : List Row) → m < n → AllByRecursion (λ (row : Row). before job version row.key.job row.key.version ≡ true) rest → AllByRecursion (λ (later : Row). is_key_below (record { job = job; version = version; part = m }) later.key ≡ true) (rows_from job version n pieces ++ rest)
later_pieces job version m n [] rest lt h =
    all_weaker (λ (row : Row). before job version row.key.job row.key.version ≡ true) (λ (later : Row). is_key_below (record { job = job; version = version; part = m }) later.key ≡ true)
    (λ later e. below_before (ltb job later.key.job) (eqb job later.key.job) (ltb version later.key.version) (eqb version later.key.version) (ltb m later.key.part) e) rest h
later_pieces job version m n (p ∷ ps) rest lt h = (below_part job version m n lt, later_pieces job version m (n + 1) ps rest (omega arith) h)

rising_pieces : (job version n : ℕ) (pieces : List Bytes) (rest : List Row) → AllByRecursion (λ (row : Row). before job version row.key.job row.key.version ≡ true) rest → AreRising rest → AreRising (rows_from job version n pieces ++ rest)
rising_pieces job version n [] rest h r = r
rising_pieces job version n (p ∷ ps) rest h r = (later_pieces job version n (n + 1) ps rest (omega arith) h, rising_pieces job version (n + 1) ps rest h r)

pub rising_groups : (groups : List Group) → AreInOrder groups → AreRising (flat_map rows_of groups)
rising_groups [] h = tt
rising_groups (g ∷ gs) h = rising_pieces g.job g.version 0 g.pieces (flat_map rows_of gs) (behind g.job g.version gs h.0) (rising_groups gs h.1)

-- parts of whole batches in order are a table
abbrev pub table_of : (rows : List Row) (groups : List Group) → rows ≡ flat_map rows_of groups → AreInOrder groups → AllByRecursion IsWhole groups → IsTable rows
table_of rows groups are order whole = record { rise = subst AreRising (sym are) (rising_groups groups order); groups = groups; are = are; order = order; whole = whole }

pub table_filter : (test : ℕ → ℕ → Bool) (rows : List Row) → IsTable rows → IsTable (filter (row_test test) rows)
table_filter test rows t =
    table_of (filter (row_test test) rows) (filter (group_test test) t.groups) (ap (filter (row_test test)) t.are ∙ filter_rows test t.groups) (order_filter (group_test test) t.groups t.order) (all_filter IsWhole (group_test test) t.groups t.whole)

-- ---- they are joined

abbrev whole_at : ℕ → ℕ → Bytes → Whole
whole_at job version bytes = record { job = job; version = version; bytes = bytes }

abbrev pub whole_in : Group → Whole
whole_in group = record { job = group.job; version = group.version; bytes = spelled group.pieces }

onto_pieces : (job version n : ℕ) (bytes : Bytes) (pieces : List Bytes) (rest : List Row) → joined_onto (whole_at job version bytes) (rows_from job version n pieces ++ rest) ≡ joined_onto (whole_at job version (bytes ++ spelled pieces)) rest
onto_pieces job version n bytes [] rest = ap (λ (x : Bytes). joined_onto (whole_at job version x) rest) (sym (append-nil bytes))
onto_pieces job version n bytes (p ∷ ps) rest =
    cond-true (same job version job version) _ _ (same_itself job version)
    ∙ onto_pieces job version (n + 1) (bytes ++ p) ps rest
    ∙ ap (λ (x : Bytes). joined_onto (whole_at job version x) rest) (append_assoc bytes p (spelled ps))

joined_pieces : (job version : ℕ) (pieces : List Bytes) (rest : List Row) → 0 < length pieces → joined (rows_from job version 0 pieces ++ rest) ≡ joined_onto (whole_at job version (spelled pieces)) rest
joined_pieces job version [] rest some = absurd (omega arith)
joined_pieces job version (p ∷ ps) rest some = onto_pieces job version 1 p ps rest

ends_at : (whole : Whole) (job version : ℕ) (pieces : List Bytes) (rest : List Row) → 0 < length pieces → same job version whole.job whole.version ≡ false → joined_onto whole (rows_from job version 0 pieces ++ rest) ≡ whole ∷ joined (rows_from job version 0 pieces ++ rest)
ends_at whole job version [] rest some e = absurd (omega arith)
ends_at whole job version (p ∷ ps) rest some e = cond-false (same job version whole.job whole.version) _ _ e

ends : (group : Group) (later : List Group) → AllByRecursion (λ other. is_group_before other.job other.version group ≡ true) later → AllByRecursion IsWhole later → joined_onto (whole_in group) (flat_map rows_of later) ≡ whole_in group ∷ joined (flat_map rows_of later)
ends group [] order whole = refl
ends group (g ∷ gs) order whole = ends_at (whole_in group) g.job g.version g.pieces (flat_map rows_of gs) whole.0.some (before_not_same group.job group.version g.job g.version order.0)

pub joined_groups : (groups : List Group) → AreInOrder groups → AllByRecursion IsWhole groups → joined (flat_map rows_of groups) ≡ map whole_in groups
joined_groups [] order whole = refl
joined_groups (g ∷ gs) order whole =
    joined_pieces g.job g.version g.pieces (flat_map rows_of gs) whole.0.some
    ∙ ends g gs order.0 whole.1
    ∙ ap (λ (wholes : List Whole). whole_in g ∷ wholes) (joined_groups gs order.1 whole.1)

abbrev pub log_of : List Group → List Standing
log_of groups = map standing_of (map whole_in groups)

pub log_is : (rows : List Row) → (t : IsTable rows) → log_in rows ≡ log_of t.groups
log_is rows t = ap log_in t.are ∙ ap (map standing_of) (joined_groups t.groups t.order t.whole)

pub log_filter : (test : ℕ → ℕ → Bool) (rows : List Row) → IsTable rows → log_in (filter (row_test test) rows) ≡ filter (standing_test test) (log_in rows)
unfolding table_filter
log_filter test rows t =
    log_is (filter (row_test test) rows) (table_filter test rows t)
    ∙ ap (map standing_of) (sym (filter-map whole_in (λ (whole : Whole). test whole.job whole.version) t.groups))
    ∙ sym (filter-map standing_of (standing_test test) (map whole_in t.groups))
    ∙ ap (filter (standing_test test)) (sym (log_is rows t))

-- ---- what is read of a job

all_read : (groups : List Group) → AllByRecursion IsWhole groups → AllByRecursion (λ (whole : Whole). IsRead whole.bytes) (map whole_in groups)
all_read [] h = tt
all_read (g ∷ gs) h = (h.0.read, all_read gs h.1)

pub between_read : (job begin end : ℕ) (rows : List Row) → IsTable rows → All (λ (whole : Whole). IsRead whole.bytes) (joined (rows_between job begin end rows))
between_read job begin end rows t =
    let left = table_filter (is_between job begin end) rows t in
    All-from_recursion (λ (whole : Whole). IsRead whole.bytes) (joined (rows_between job begin end rows))
    (subst (AllByRecursion (λ (whole : Whole). IsRead whole.bytes)) (sym (ap joined left.are ∙ joined_groups left.groups left.order left.whole)) (all_read left.groups left.whole))

pub between_is : (job begin end : ℕ) (rows : List Row) → IsTable rows → map batch_in (joined (rows_between job begin end rows)) ≡ batches_between job begin end (log_in rows)
between_is job begin end rows t =
    sym (map-map standing_of batch_of (joined (rows_between job begin end rows)))
    ∙ ap (map batch_of) (log_filter (is_between job begin end) rows t)

-- ---- what stands

part_stands : (job version a b n : ℕ) (pieces : List Bytes) (rest : List Row) → 0 < length pieces → same a b job version ≡ true → has_part job version (rows_from a b n pieces ++ rest) ≡ true
part_stands job version a b n [] rest some e = absurd (omega arith)
part_stands job version a b n (p ∷ ps) rest some e = ap (λ (x : Bool). x || has_part job version (rows_from a b (n + 1) ps ++ rest)) e

part_other : (job version a b n : ℕ) (pieces : List Bytes) (rest : List Row) → same a b job version ≡ false → has_part job version (rows_from a b n pieces ++ rest) ≡ has_part job version rest
part_other job version a b n [] rest e = refl
part_other job version a b n (p ∷ ps) rest e = ap (λ (x : Bool). x || has_part job version (rows_from a b (n + 1) ps ++ rest)) e ∙ part_other job version a b (n + 1) ps rest e

parts_stand : (job version : ℕ) (groups : List Group) → AllByRecursion IsWhole groups → has_part job version (flat_map rows_of groups) ≡ stands job version (log_of groups)
parts_stand job version [] whole = refl
parts_stand job version (g ∷ gs) whole = go (same g.job g.version job version) refl (parts_stand job version gs whole.1)
  where
    go : (b : Bool) → same g.job g.version job version ≡ b → has_part job version (flat_map rows_of gs) ≡ stands job version (log_of gs) → has_part job version (flat_map rows_of (g ∷ gs)) ≡ stands job version (log_of (g ∷ gs))
    go true e ih = part_stands job version g.job g.version 0 g.pieces (flat_map rows_of gs) whole.0.some e ∙ sym (ap (λ (x : Bool). x || stands job version (log_of gs)) e)
    go false e ih = part_other job version g.job g.version 0 g.pieces (flat_map rows_of gs) e ∙ ih ∙ sym (ap (λ (x : Bool). x || stands job version (log_of gs)) e)

pub stands_is : (job version : ℕ) (rows : List Row) → IsTable rows → has_part job version rows ≡ stands job version (log_in rows)
stands_is job version rows t = ap (has_part job version) t.are ∙ parts_stand job version t.groups t.whole ∙ ap (stands job version) (sym (log_is rows t))

-- ---- what stands is in order

later_log : (group : Group) (groups : List Group) → AllByRecursion (λ (later : Group). is_group_before later.job later.version group ≡ true) groups → AllByRecursion (λ (later : Standing). is_before later.job later.version (standing_of (whole_in group)) ≡ true) (log_of groups)
later_log group [] h = tt
later_log group (g ∷ gs) h = (h.0, later_log group gs h.1)

order_log : (groups : List Group) → AreInOrder groups → AreOrdered (log_of groups)
order_log [] h = tt
order_log (g ∷ gs) h = (later_log g gs h.0, order_log gs h.1)

pub log_ordered : (rows : List Row) → IsTable rows → AreOrdered (log_in rows)
log_ordered rows t = subst AreOrdered (sym (log_is rows t)) (order_log t.groups t.order)
