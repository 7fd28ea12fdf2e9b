-- A binary search finds how many keys are below a key.
use Rattle.std.proofs.Common.{◌≡◌, ℕ, zero, suc, ◌-◌, max, ◌<◌, ◌≤◌, ◌⊎◌, inl, inr, Bool, true, false, not, ◌&&◌, ◌||◌, cond, eqb, ltb, leb, List, [], ◌∷◌, ◌++◌, length, take, drop, get_or, refl, sym, ap, ◌∙◌, arith}
use Rattle.std.specs.List.{AllByRecursion, filter}
use Rattle.std.specs.List.Sorted.{IsPartitionedBy, IsPartitionPoint}
use Rattle.std.proofs.lemmas.Bool.{and_parts, eqb-true, ltb-true, lt-leb, le-leb, cases_lt, cases_order, lt-ltb, le-ltb, eq-eqb, ne_eqb, cond-true, cond-false}
use Rattle.std.proofs.lemmas.List.Elements.{All-from_recursion}
use Rattle.mutations.proofs.Basics.{not_both}
use Rattle.log_keys.specs.Keys.{Key, is_key_below}
use Rattle.log_keys.specs.inner.Keys.{first_at}
use Rattle.log_keys.specs.Logs.{is_between, is_older}
use Rattle.log_keys.specs.inner.Parts.{Row}
use Rattle.log_keys.specs.inner.Table.{AreRising, keys_below, has_part, rows_between}
use Rattle.log_keys.proofs.Orders.{before, before_trans, before_least, before_start, start_before}

-- ---- keys are in order

abbrev pub Below : Key → Key → Type 0
Below a b = (a.job < b.job) ⊎ ((a.job ≡ b.job) × (before a.version a.part b.version b.part ≡ true))

below_same : (a b : Key) → a.job ≡ b.job → is_key_below a b ≡ before a.version a.part b.version b.part
below_same a b e = rw (le-ltb a.job b.job (omega arith), eq-eqb a.job b.job e) refl

pub below_is : (a b : Key) → is_key_below a b ≡ true → Below a b
below_is a b h = elim (cases_order a.job b.job) [
  | inl e ↦ inr (e, sym (below_same a b e) ∙ h)
  | inr (inl lt) ↦ inl lt
  | inr (inr gt) ↦ not_both h (rw (le-ltb a.job b.job (omega arith), ne_eqb a.job b.job (λ e. omega arith)) refl)
]

below_from : (a b : Key) → Below a b → is_key_below a b ≡ true
below_from a b h = elim h [
  | inl lt ↦ rw (lt-ltb a.job b.job lt) refl
  | inr p ↦ below_same a b p.0 ∙ p.1
]

below_trans : (a b c : Key) → is_key_below a b ≡ true → is_key_below b c ≡ true → is_key_below a c ≡ true
below_trans a b c h g = below_from a c (elim (below_is a b h) [
  | inl lt ↦ elim (below_is b c g) [ inl more ↦ inl (omega arith) | inr p ↦ (let e = p.0 in inl (omega arith)) ]
  | inr r ↦ (let d = r.0 in elim (below_is b c g) [ inl more ↦ inl (omega arith) | inr p ↦ inr (d ∙ p.0, before_trans a.version a.part b.version b.part c.version c.part r.1 p.1) ])
])

-- ---- places

pub parted : (key : Key) (rows : List Row) → AreRising rows → IsPartitionedBy (λ (row : Row). is_key_below row.key key) rows
parted key [] h i j d le lt e = absurd (omega arith)
parted key (r ∷ rs) h zero zero d le lt e = e
parted key (r ∷ rs) h zero (suc j) d le lt e =
    below_trans r.key (get_or rs j d).key key (All-from_recursion (λ (later : Row). is_key_below r.key later.key ≡ true) rs h.0 j d (omega arith)) e
parted key (r ∷ rs) h (suc i) zero d le lt e = absurd (omega arith)
parted key (r ∷ rs) h (suc i) (suc j) d le lt e = parted key rs h.1 i j d (omega arith) (omega arith) e

pub place_is : (key : Key) (rows : List Row) (i : ℕ) → i ≤ length rows → IsPartitionPoint (λ (row : Row). is_key_below row.key key ≡ true) (λ (row : Row). is_key_below row.key key ≡ false) rows i → i ≡ keys_below key rows
place_is key [] zero le h = refl
place_is key [] (suc i) le h = absurd (omega arith)
place_is key (r ∷ rs) zero le h = sym (cond-false (is_key_below r.key key) (suc (keys_below key rs)) zero (h.1 0 r (omega arith) (omega arith)))
place_is key (r ∷ rs) (suc i) le h =
    ap suc (place_is key rs i (omega arith) ((λ k d l u. h.0 (suc k) d (omega arith) (omega arith)), (λ k d l u. h.1 (suc k) d (omega arith) (omega arith))))
    ∙ sym (cond-true (is_key_below r.key key) (suc (keys_below key rs)) zero (h.0 0 r (omega arith) (omega arith)))

-- ---- the rows between two keys

front_out : (job begin end : ℕ) (key : Key) → is_key_below key (first_at job begin) ≡ true → is_between job begin end key.job key.version ≡ false
front_out job begin end key h = elim (below_is key (first_at job begin) h) [
  | inl lt ↦ rw (ne_eqb key.job job (λ e. omega arith)) refl
  | inr p ↦ (let lt = before_start key.version key.part begin p.1 in rw (eq-eqb key.job job p.0, lt-leb begin key.version lt) refl)
]

back_out : (job begin end : ℕ) (key : Key) → is_key_below key (first_at job end) ≡ false → is_between job begin end key.job key.version ≡ false
back_out job begin end key h = go (is_between job begin end key.job key.version) refl
  where
    go : (b : Bool) → is_between job begin end key.job key.version ≡ b → is_between job begin end key.job key.version ≡ false
    go false e = e
    go true e =
        let p = and_parts (eqb key.job job) (leb begin key.version && ltb key.version end) e in
        let q = and_parts (leb begin key.version) (ltb key.version end) p.1 in
        not_both (below_from key (first_at job end) (inr (eqb-true key.job job p.0, start_before key.version key.part end (ltb-true key.version end q.1)))) h

middle_in : (job begin end : ℕ) (key : Key) → is_key_below key (first_at job begin) ≡ false → is_key_below key (first_at job end) ≡ true → is_between job begin end key.job key.version ≡ true
middle_in job begin end key h g = elim (below_is key (first_at job end) g) [
  | inl lt ↦ not_both (below_from key (first_at job begin) (inl lt)) h
  | inr p ↦ elim (cases_lt key.version begin) [
    | inl less ↦ not_both (below_from key (first_at job begin) (inr (p.0, start_before key.version key.part begin less))) h
    | inr more ↦ (let lt = before_start key.version key.part end p.1 in rw (eq-eqb key.job job p.0, le-leb begin key.version more, lt-ltb key.version end lt) refl)
  ]
]

none_below : (key other : Key) (rows : List Row) → AllByRecursion (λ (later : Row). is_key_below other later.key ≡ true) rows → is_key_below other key ≡ false → AllByRecursion (λ (row : Row). is_key_below row.key key ≡ false) rows
none_below key other [] h e = tt
none_below key other (r ∷ rs) h e = (go (is_key_below r.key key) refl, none_below key other rs h.1 e)
  where
    go : (b : Bool) → is_key_below r.key key ≡ b → is_key_below r.key key ≡ false
    go false f = f
    go true f = not_both (below_trans other r.key key h.0 f) e

none_between : (job begin end : ℕ) (rows : List Row) → AllByRecursion (λ (row : Row). is_key_below row.key (first_at job end) ≡ false) rows → rows_between job begin end rows ≡ []
none_between job begin end [] h = refl
none_between job begin end (r ∷ rs) h = cond-false (is_between job begin end r.key.job r.key.version) _ _ (back_out job begin end r.key h.0) ∙ none_between job begin end rs h.1

front_between : (job begin end : ℕ) (rows : List Row) → AreRising rows → AllByRecursion (λ (row : Row). is_key_below row.key (first_at job begin) ≡ false) rows → rows_between job begin end rows ≡ take (keys_below (first_at job end) rows) rows
front_between job begin end [] rise h = refl
front_between job begin end (r ∷ rs) rise h = go (is_key_below r.key (first_at job end)) refl (front_between job begin end rs rise.1 h.1)
  where
    go : (b : Bool) → is_key_below r.key (first_at job end) ≡ b → rows_between job begin end rs ≡ take (keys_below (first_at job end) rs) rs → rows_between job begin end (r ∷ rs) ≡ take (keys_below (first_at job end) (r ∷ rs)) (r ∷ rs)
    go true e ih =
        cond-true (is_between job begin end r.key.job r.key.version) _ _ (middle_in job begin end r.key h.0 e)
        ∙ ap (λ (rows : List Row). r ∷ rows) ih
        ∙ sym (ap (λ (n : ℕ). take n (r ∷ rs)) (cond-true (is_key_below r.key (first_at job end)) (suc (keys_below (first_at job end) rs)) zero e))
    go false e ih =
        cond-false (is_between job begin end r.key.job r.key.version) _ _ (back_out job begin end r.key e)
        ∙ none_between job begin end rs (none_below (first_at job end) r.key rs rise.0 e)
        ∙ sym (ap (λ (n : ℕ). take n (r ∷ rs)) (cond-false (is_key_below r.key (first_at job end)) (suc (keys_below (first_at job end) rs)) zero e))

abbrev pub cut : ℕ → ℕ → List Row → List Row
cut first last rows = take (max first last - first) (drop first rows)

pub between_cut : (job begin end : ℕ) (rows : List Row) → AreRising rows → rows_between job begin end rows ≡ cut (keys_below (first_at job begin) rows) (keys_below (first_at job end) rows) rows
between_cut job begin end [] rise = refl
between_cut job begin end (r ∷ rs) rise = go (is_key_below r.key (first_at job begin)) refl (is_key_below r.key (first_at job end)) refl (between_cut job begin end rs rise.1)
  where
    go : (b : Bool) → is_key_below r.key (first_at job begin) ≡ b → (d : Bool) → is_key_below r.key (first_at job end) ≡ d
        → rows_between job begin end rs ≡ cut (keys_below (first_at job begin) rs) (keys_below (first_at job end) rs) rs
        → rows_between job begin end (r ∷ rs) ≡ cut (keys_below (first_at job begin) (r ∷ rs)) (keys_below (first_at job end) (r ∷ rs)) (r ∷ rs)
    go true e true f ih =
        let first : keys_below (first_at job begin) (r ∷ rs) ≡ suc (keys_below (first_at job begin) rs) = cond-true _ (suc (keys_below (first_at job begin) rs)) zero e in
        let last : keys_below (first_at job end) (r ∷ rs) ≡ suc (keys_below (first_at job end) rs) = cond-true _ (suc (keys_below (first_at job end) rs)) zero f in
        cond-false (is_between job begin end r.key.job r.key.version) _ _ (front_out job begin end r.key e)
        ∙ ih
        ∙ ap (λ (n : ℕ). take n (drop (keys_below (first_at job begin) rs) rs)) (omega arith)
        ∙ sym (ap (λ (n : ℕ). cut n (keys_below (first_at job end) (r ∷ rs)) (r ∷ rs)) first ∙ ap (λ (n : ℕ). cut (suc (keys_below (first_at job begin) rs)) n (r ∷ rs)) last)
    go true e false f ih =
        let first : keys_below (first_at job begin) (r ∷ rs) ≡ suc (keys_below (first_at job begin) rs) = cond-true _ (suc (keys_below (first_at job begin) rs)) zero e in
        let last : keys_below (first_at job end) (r ∷ rs) ≡ zero = cond-false _ (suc (keys_below (first_at job end) rs)) zero f in
        let none : max (suc (keys_below (first_at job begin) rs)) zero - suc (keys_below (first_at job begin) rs) ≡ zero = omega arith in
        cond-false (is_between job begin end r.key.job r.key.version) _ _ (front_out job begin end r.key e)
        ∙ none_between job begin end rs (none_below (first_at job end) r.key rs rise.0 f)
        ∙ sym (ap (λ (n : ℕ). cut n (keys_below (first_at job end) (r ∷ rs)) (r ∷ rs)) first ∙ ap (λ (n : ℕ). cut (suc (keys_below (first_at job begin) rs)) n (r ∷ rs)) last ∙ ap (λ (n : ℕ). take n (drop (keys_below (first_at job begin) rs) rs)) none)
    go false e d f ih =
        let first : keys_below (first_at job begin) (r ∷ rs) ≡ zero = cond-false _ (suc (keys_below (first_at job begin) rs)) zero e in
        let all : max zero (keys_below (first_at job end) (r ∷ rs)) - zero ≡ keys_below (first_at job end) (r ∷ rs) = omega arith in
        front_between job begin end (r ∷ rs) rise (e, none_below (first_at job begin) r.key rs rise.0 e)
        ∙ sym (ap (λ (n : ℕ). cut n (keys_below (first_at job end) (r ∷ rs)) (r ∷ rs)) first ∙ ap (λ (n : ℕ). take n (r ∷ rs)) all)

-- ---- whether some row is there

-- where a part comes before those of a job and a version
first_below : (p q r s : Bool) → (p || (q && (r || (s && false)))) ≡ (p || (q && r))
first_below true q r s = refl
first_below false true true s = refl
first_below false true false true = refl
first_below false true false false = refl
first_below false false r s = refl

pub before_first : (key : Key) (job version : ℕ) → is_key_below key (first_at job version) ≡ (ltb key.job job || (eqb key.job job && ltb key.version version))
before_first key job version =
    ap (λ (b : Bool). ltb key.job job || (eqb key.job job && (ltb key.version version || (eqb key.version version && b)))) (le-ltb key.part 0 (omega arith))
    ∙ first_below (ltb key.job job) (eqb key.job job) (ltb key.version version) (eqb key.version version)

abbrev is_at : ℕ → ℕ → Key → Bool
is_at job version key = eqb key.job job && eqb key.version version

not_at : (job version : ℕ) (key : Key) → is_key_below key (first_at job version) ≡ true → is_at job version key ≡ false
not_at job version key h = elim (below_is key (first_at job version) h) [
  | inl lt ↦ rw (ne_eqb key.job job (λ e. omega arith)) refl
  | inr p ↦ (let lt = before_start key.version key.part version p.1 in rw (eq-eqb key.job job p.0, ne_eqb key.version version (λ e. omega arith)) refl)
]

-- what comes behind a row that isn't before the first key, and isn't of it
not_behind : (job version : ℕ) (key later : Key) → is_key_below key (first_at job version) ≡ false → is_at job version key ≡ false → is_key_below key later ≡ true → is_at job version later ≡ false
not_behind job version key later h g more = go (is_at job version later) refl
  where
    go : (b : Bool) → is_at job version later ≡ b → is_at job version later ≡ false
    go false e = e
    go true e =
        let p = and_parts (eqb later.job job) (eqb later.version version) e in
        let same_job = eqb-true later.job job p.0 in
        let same_version = eqb-true later.version version p.1 in
        elim (below_is key later more) [
          | inl lt ↦ not_both (below_from key (first_at job version) (inl (omega arith))) h
          | inr q ↦ (let here : key.job ≡ job = q.0 ∙ same_job in elim (cases_order key.version version) [
            | inl f ↦ not_both (rw (eq-eqb key.job job here, eq-eqb key.version version f) refl) g
            | inr (inl lt) ↦ not_both (below_from key (first_at job version) (inr (here, start_before key.version key.part version lt))) h
            | inr (inr gt) ↦ (let no = before_least key.version key.part later.version later.part q.1 in absurd (omega arith))
          ])
        ]

none_behind : (job version : ℕ) (key : Key) (rows : List Row) → is_key_below key (first_at job version) ≡ false → is_at job version key ≡ false → AllByRecursion (λ (later : Row). is_key_below key later.key ≡ true) rows → has_part job version rows ≡ false
none_behind job version key [] h g all = refl
none_behind job version key (r ∷ rs) h g all = ap (λ (b : Bool). b || has_part job version rs) (not_behind job version key r.key h g all.0) ∙ none_behind job version key rs h g all.1

there_first : (job version : ℕ) (x : Row) (xs : List Row) → AllByRecursion (λ (later : Row). is_key_below x.key later.key ≡ true) xs → is_key_below x.key (first_at job version) ≡ false → is_at job version x.key ≡ has_part job version (x ∷ xs)
there_first job version x xs all f = go (is_at job version x.key) refl
  where
    go : (b : Bool) → is_at job version x.key ≡ b → is_at job version x.key ≡ has_part job version (x ∷ xs)
    go true e = e ∙ sym (ap (λ (b : Bool). b || has_part job version xs) e)
    go false e = e ∙ sym (ap (λ (b : Bool). b || has_part job version xs) e ∙ none_behind job version x.key xs f e all)

pub part_there : (job version : ℕ) (rows : List Row) (i : ℕ) (r : Row) → AreRising rows → i ≡ keys_below (first_at job version) rows → i < length rows → r ≡ get_or rows i r → is_at job version r.key ≡ has_part job version rows
part_there job version [] i r rise is lt here = absurd (omega arith)
part_there job version (x ∷ xs) i r rise is lt here =
    go (is_key_below x.key (first_at job version)) refl (λ (j : ℕ) same less at. part_there job version xs j r rise.1 same less at)
  where
    go : (b : Bool) → is_key_below x.key (first_at job version) ≡ b
        → ((j : ℕ) → j ≡ keys_below (first_at job version) xs → j < length xs → r ≡ get_or xs j r → is_at job version r.key ≡ has_part job version xs)
        → is_at job version r.key ≡ has_part job version (x ∷ xs)
    go true e ih =
        let next : i ≡ suc (keys_below (first_at job version) xs) = is ∙ cond-true _ (suc (keys_below (first_at job version) xs)) zero e in
        ih (keys_below (first_at job version) xs) refl (omega (arith, next)) (here ∙ ap (λ (n : ℕ). get_or (x ∷ xs) n r) next)
        ∙ sym (ap (λ (b : Bool). b || has_part job version xs) (not_at job version x.key e))
    go false e ih =
        let none : i ≡ zero = is ∙ cond-false _ (suc (keys_below (first_at job version) xs)) zero e in
        let same : r ≡ x = here ∙ ap (λ (n : ℕ). get_or (x ∷ xs) n r) none in
        ap (λ (y : Row). is_at job version y.key) same ∙ there_first job version x xs rise.0 e

pub part_missing : (job version : ℕ) (rows : List Row) → length rows ≤ keys_below (first_at job version) rows → has_part job version rows ≡ false
part_missing job version [] le = refl
part_missing job version (x ∷ xs) le = go (is_key_below x.key (first_at job version)) refl (part_missing job version xs)
  where
    go : (b : Bool) → is_key_below x.key (first_at job version) ≡ b → (length xs ≤ keys_below (first_at job version) xs → has_part job version xs ≡ false) → has_part job version (x ∷ xs) ≡ false
    go true e ih =
        let next : keys_below (first_at job version) (x ∷ xs) ≡ suc (keys_below (first_at job version) xs) = cond-true _ (suc (keys_below (first_at job version) xs)) zero e in
        ap (λ (b : Bool). b || has_part job version xs) (not_at job version x.key e) ∙ ih (omega (arith, next))
    go false e ih = absurd (let none = cond-false _ (suc (keys_below (first_at job version) xs)) zero e in omega (arith, none))

-- ---- the rows of a job from a version on and before another are taken out

abbrev pub is_kept : ℕ → ℕ → ℕ → Row → Bool
is_kept job begin end row = not (is_between job begin end row.key.job row.key.version)

kept_all : (job begin end : ℕ) (rows : List Row) → AllByRecursion (λ (row : Row). is_key_below row.key (first_at job end) ≡ false) rows → filter (is_kept job begin end) rows ≡ rows
kept_all job begin end [] h = refl
kept_all job begin end (r ∷ rs) h =
    cond-true (is_kept job begin end r) _ _ (ap not (back_out job begin end r.key h.0)) ∙ ap (λ (rows : List Row). r ∷ rows) (kept_all job begin end rs h.1)

kept_front : (job begin end : ℕ) (rows : List Row) → AreRising rows → AllByRecursion (λ (row : Row). is_key_below row.key (first_at job begin) ≡ false) rows → filter (is_kept job begin end) rows ≡ drop (keys_below (first_at job end) rows) rows
kept_front job begin end [] rise h = refl
kept_front job begin end (r ∷ rs) rise h = go (is_key_below r.key (first_at job end)) refl (kept_front job begin end rs rise.1 h.1)
  where
    go : (b : Bool) → is_key_below r.key (first_at job end) ≡ b → filter (is_kept job begin end) rs ≡ drop (keys_below (first_at job end) rs) rs → filter (is_kept job begin end) (r ∷ rs) ≡ drop (keys_below (first_at job end) (r ∷ rs)) (r ∷ rs)
    go true e ih =
        cond-false (is_kept job begin end r) _ _ (ap not (middle_in job begin end r.key h.0 e))
        ∙ ih
        ∙ sym (ap (λ (n : ℕ). drop n (r ∷ rs)) (cond-true _ (suc (keys_below (first_at job end) rs)) zero e))
    go false e ih =
        kept_all job begin end (r ∷ rs) (e, none_below (first_at job end) r.key rs rise.0 e)
        ∙ sym (ap (λ (n : ℕ). drop n (r ∷ rs)) (cond-false _ (suc (keys_below (first_at job end) rs)) zero e))

abbrev pub without_cut : ℕ → ℕ → List Row → List Row
without_cut first last rows = take first rows ++ drop last rows

-- what comes before the first key of a version comes before that of a later one
up_below : (job begin end : ℕ) (key : Key) → begin ≤ end → is_key_below key (first_at job begin) ≡ true → (is_key_below key (first_at job end) ≡ true) × (is_between job begin end key.job key.version ≡ false)
up_below job begin end key le h = (
  elim (below_is key (first_at job begin) h) [
    | inl lt ↦ below_from key (first_at job end) (inl lt)
    | inr p ↦ (let lt = before_start key.version key.part begin p.1 in below_from key (first_at job end) (inr (p.0, start_before key.version key.part end (omega arith))))
  ],
  front_out job begin end key h,
)

pub kept_cut : (job begin end : ℕ) (rows : List Row) → begin ≤ end → AreRising rows → filter (is_kept job begin end) rows ≡ without_cut (keys_below (first_at job begin) rows) (keys_below (first_at job end) rows) rows
kept_cut job begin end [] le rise = refl
kept_cut job begin end (r ∷ rs) le rise = go (is_key_below r.key (first_at job begin)) refl (kept_cut job begin end rs le rise.1)
  where
    go : (b : Bool) → is_key_below r.key (first_at job begin) ≡ b
        → filter (is_kept job begin end) rs ≡ without_cut (keys_below (first_at job begin) rs) (keys_below (first_at job end) rs) rs
        → filter (is_kept job begin end) (r ∷ rs) ≡ without_cut (keys_below (first_at job begin) (r ∷ rs)) (keys_below (first_at job end) (r ∷ rs)) (r ∷ rs)
    go true e ih =
        let up = up_below job begin end r.key le e in
        cond-true (is_kept job begin end r) _ _ (ap not up.1)
        ∙ ap (λ (rows : List Row). r ∷ rows) ih
        ∙ sym (
        ap (λ (n : ℕ). without_cut n (keys_below (first_at job end) (r ∷ rs)) (r ∷ rs)) (cond-true _ (suc (keys_below (first_at job begin) rs)) zero e)
        ∙ ap (λ (n : ℕ). without_cut (suc (keys_below (first_at job begin) rs)) n (r ∷ rs)) (cond-true _ (suc (keys_below (first_at job end) rs)) zero up.0)
        )
    go false e ih =
        kept_front job begin end (r ∷ rs) rise (e, none_below (first_at job begin) r.key rs rise.0 e)
        ∙ sym (ap (λ (n : ℕ). without_cut n (keys_below (first_at job end) (r ∷ rs)) (r ∷ rs)) (cond-false _ (suc (keys_below (first_at job begin) rs)) zero e))

-- nothing is cut where the places are the same or turned
pub cut_none : (job begin end : ℕ) (rows : List Row) → begin ≤ end → AreRising rows → keys_below (first_at job end) rows ≤ keys_below (first_at job begin) rows → filter (is_kept job begin end) rows ≡ rows
cut_none job begin end [] up rise le = refl
cut_none job begin end (r ∷ rs) up rise le = go (is_key_below r.key (first_at job begin)) refl (is_key_below r.key (first_at job end)) refl (cut_none job begin end rs up rise.1)
  where
    go : (b : Bool) → is_key_below r.key (first_at job begin) ≡ b → (d : Bool) → is_key_below r.key (first_at job end) ≡ d
        → (keys_below (first_at job end) rs ≤ keys_below (first_at job begin) rs → filter (is_kept job begin end) rs ≡ rs)
        → filter (is_kept job begin end) (r ∷ rs) ≡ r ∷ rs
    go true e d f ih =
        let higher = up_below job begin end r.key up e in
        let one = cond-true _ (suc (keys_below (first_at job begin) rs)) zero e in
        let two = cond-true _ (suc (keys_below (first_at job end) rs)) zero higher.0 in
        cond-true (is_kept job begin end r) _ _ (ap not higher.1) ∙ ap (λ (rows : List Row). r ∷ rows) (ih (omega (arith, one, two)))
    go false e true f ih =
        absurd (let one = cond-false _ (suc (keys_below (first_at job begin) rs)) zero e in let two = cond-true _ (suc (keys_below (first_at job end) rs)) zero f in omega (arith, one, two))
    go false e false f ih = kept_all job begin end (r ∷ rs) (f, none_below (first_at job end) r.key rs rise.0 f)

older_is : (job below of version : ℕ) → is_older job below of version ≡ is_between job 0 below of version
older_is job below of version = rw (le-leb 0 version (omega arith)) refl

pub older_out : (job below : ℕ) (rows : List Row) → filter (is_kept job 0 below) rows ≡ filter (λ (row : Row). not (is_older job below row.key.job row.key.version)) rows
older_out job below [] = refl
older_out job below (r ∷ rs) =
    let same = sym (older_is job below r.key.job r.key.version) in
    λ i. cond (not (same i)) (r ∷ older_out job below rs i) (older_out job below rs i)

-- ---- of a slice of the same rows

pub place_in : (key : Key) (rows slice : List Row) (place : ℕ) → slice ≡ rows → place ≡ keys_below key slice → place ≡ keys_below key rows
place_in key rows slice place same is = is ∙ ap (keys_below key) same

pub cut_here : (job begin end : ℕ) (rows slice other : List Row) (first last : ℕ) → begin ≤ end → AreRising rows → slice ≡ rows → other ≡ rows → first ≡ keys_below (first_at job begin) slice → last ≡ keys_below (first_at job end) other → without_cut first last rows ≡ filter (is_kept job begin end) rows
cut_here job begin end rows slice other first last up rise same too is to =
    ap (λ (n : ℕ). without_cut n last rows) (place_in (first_at job begin) rows slice first same is)
    ∙ ap (λ (n : ℕ). without_cut (keys_below (first_at job begin) rows) n rows) (place_in (first_at job end) rows other last too to)
    ∙ sym (kept_cut job begin end rows up rise)

pub uncut_here : (job begin end : ℕ) (rows slice other : List Row) (first last : ℕ) → begin ≤ end → AreRising rows → slice ≡ rows → other ≡ rows → first ≡ keys_below (first_at job begin) slice → last ≡ keys_below (first_at job end) other → last ≤ first → rows ≡ filter (is_kept job begin end) rows
uncut_here job begin end rows slice other first last up rise same too is to le =
    let one = place_in (first_at job begin) rows slice first same is in
    let two = place_in (first_at job end) rows other last too to in
    sym (cut_none job begin end rows up rise (omega (arith, one, two, le)))
