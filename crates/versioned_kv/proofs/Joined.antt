-- Chunks that are joined: what stands before a chunk, in it, and behind it.
use Rattle.std.proofs.Common.{◌≡◌, ℕ, zero, suc, ◌+◌, ◌*◌, ◌^◌, ◌<◌, ◌≤◌, Bool, true, false, cond, List, [], ◌∷◌, ◌++◌, length, Some, take, drop, refl, sym, ap, ◌∙◌, subst, arith}
use Rattle.std.specs.List.{slice_get, slice_set, insert, AllByRecursion}
use Rattle.std.proofs.lemmas.List.{take-append-drop}
use Rattle.fb_bytes.specs.Bytes.{Bytes, is_below, is_same}
use Rattle.fb_bytes.proofs.Order.{below_trans, below_up, below_not_back, below_not_same}
use Rattle.mutations.proofs.Basics.{by_test, all_weaker}
use Rattle.versioned_kv.specs.Chains.{Row, Chain, rows_of}
use Rattle.versioned_kv.specs.inner.Chains.{AreChains}
use Rattle.versioned_kv.specs.inner.Edits.{put_row, put_at, AreUpto, AreRowsUpto}
use Rattle.versioned_kv.specs.inner.Chunks.{joined, AreFilled, AreKeysBelow, AreKeysPast, BelongsTo}
use Rattle.versioned_kv.proofs.Values.{later_keys, above_not_same}

-- ---- lists

pub assoc : {A : Type 0} (xs ys zs : List A) → (xs ++ ys) ++ zs ≡ xs ++ (ys ++ zs)
assoc [] ys zs = refl
assoc (x ∷ xs) ys zs = ap (λ ws. x ∷ ws) (assoc xs ys zs)

pub none_behind : {A : Type 0} (xs : List A) → xs ++ [] ≡ xs
none_behind [] = refl
none_behind (x ∷ xs) = ap (λ ws. x ∷ ws) (none_behind xs)

pub all_parts : {A : Type 0} (P : A → Type 0) (xs ys : List A) → AllByRecursion P (xs ++ ys) → AllByRecursion P xs × AllByRecursion P ys
all_parts P [] ys h = (tt, h)
all_parts P (x ∷ xs) ys h = let r = all_parts P xs ys h.1 in ((h.0, r.0), r.1)

pub all_both : {A : Type 0} (P : A → Type 0) (xs ys : List A) → AllByRecursion P xs → AllByRecursion P ys → AllByRecursion P (xs ++ ys)
all_both P [] ys h k = k
all_both P (x ∷ xs) ys h k = (h.0, all_both P xs ys h.1 k)

pub length_both : {A : Type 0} (xs ys : List A) → length (xs ++ ys) ≡ length xs + length ys
length_both [] ys = omega arith
length_both (x ∷ xs) ys = let h = length_both xs ys in omega arith

pub take_none : {A : Type 0} (xs : List A) → take 0 xs ≡ []
take_none [] = refl
take_none (x ∷ xs) = refl

-- ---- what is joined

pub joined_both : (xs ys : List (List Chain)) → joined (xs ++ ys) ≡ joined xs ++ joined ys
joined_both [] ys = refl
joined_both (x ∷ xs) ys = ap (λ (cs : List Chain). x ++ cs) (joined_both xs ys) ∙ sym (assoc x (joined xs) (joined ys))

pub cut_joined : (place : ℕ) (chunks : List (List Chain)) → joined chunks ≡ joined (take place chunks) ++ joined (drop place chunks)
cut_joined place chunks = ap joined (sym (take-append-drop place chunks)) ∙ joined_both (take place chunks) (drop place chunks)

pub parted : (place : ℕ) (chunks : List (List Chain)) (chunk : List Chain) → slice_get chunks place ≡ Some chunk → joined chunks ≡ joined (take place chunks) ++ (chunk ++ joined (drop (suc place) chunks))
parted place [] chunk g = cc
parted zero (x ∷ xs) chunk g = let same : x ≡ chunk = cc in ap (λ (c : List Chain). c ++ joined xs) same
parted (suc place) (x ∷ xs) chunk g = ap (λ (cs : List Chain). x ++ cs) (parted place xs chunk g) ∙ sym (assoc x (joined (take place xs)) (chunk ++ joined (drop (suc place) xs)))

pub set_parted : (place : ℕ) (chunks : List (List Chain)) (new : List Chain) → place < length chunks → joined (slice_set chunks place new) ≡ joined (take place chunks) ++ (new ++ joined (drop (suc place) chunks))
set_parted place [] new l = absurd (omega arith)
set_parted zero (x ∷ xs) new l = refl
set_parted (suc place) (x ∷ xs) new l = ap (λ (cs : List Chain). x ++ cs) (set_parted place xs new (omega arith)) ∙ sym (assoc x (joined (take place xs)) (new ++ joined (drop (suc place) xs)))

pub filled_set : (place : ℕ) (chunks : List (List Chain)) (new : List Chain) → AreFilled chunks → 0 < length new → AreFilled (slice_set chunks place new)
filled_set place [] new h l = tt
filled_set zero (x ∷ xs) new h l = (l, h.1)
filled_set (suc place) (x ∷ xs) new h l = (h.0, filled_set place xs new h.1 l)

pub filled_at : (place : ℕ) (chunks : List (List Chain)) (chunk : List Chain) → AreFilled chunks → slice_get chunks place ≡ Some chunk → 0 < length chunk
filled_at place [] chunk h g = cc
filled_at zero (x ∷ xs) chunk h g = let same : x ≡ chunk = cc in subst (λ (c : List Chain). 0 < length c) same h.0
filled_at (suc place) (x ∷ xs) chunk h g = filled_at place xs chunk h.1 g

-- there are no more chunks than keys
pub fewer_chunks : (chunks : List (List Chain)) → AreFilled chunks → length chunks ≤ length (joined chunks)
fewer_chunks [] h = omega arith
fewer_chunks (x ∷ xs) h = let r = fewer_chunks xs h.1 in let l = h.0 in let n = length_both x (joined xs) in omega arith

pub shorter_chunk : (place : ℕ) (chunks : List (List Chain)) (chunk : List Chain) → slice_get chunks place ≡ Some chunk → length chunk ≤ length (joined chunks)
shorter_chunk place [] chunk g = cc
shorter_chunk zero (x ∷ xs) chunk g = let same : x ≡ chunk = cc in let n = length_both x (joined xs) in let m = ap length same in omega arith
shorter_chunk (suc place) (x ∷ xs) chunk g = let n = length_both x (joined xs) in let r = shorter_chunk place xs chunk g in omega arith

-- ---- a split

halves_joined : (place middle : ℕ) (chunks : List (List Chain)) (chunk : List Chain) → slice_get chunks place ≡ Some chunk → joined (insert (slice_set chunks place (take middle chunk)) (suc place) (drop middle chunk)) ≡ joined chunks
halves_joined place middle [] chunk g = cc
halves_joined zero middle (x ∷ xs) chunk g = let same : x ≡ chunk = cc in sym (assoc (take middle chunk) (drop middle chunk) (joined xs)) ∙ ap (λ (c : List Chain). c ++ joined xs) (take-append-drop middle chunk ∙ sym same)
halves_joined (suc place) middle (x ∷ xs) chunk g = ap (λ (cs : List Chain). x ++ cs) (halves_joined place middle xs chunk g)

halves_filled : (place : ℕ) (chunks : List (List Chain)) (chunk lower upper : List Chain) → slice_get chunks place ≡ Some chunk → AreFilled chunks → 0 < length lower → 0 < length upper → AreFilled (insert (slice_set chunks place lower) (suc place) upper)
halves_filled place [] chunk lower upper g h l u = cc
halves_filled zero (x ∷ xs) chunk lower upper g h l u = (l, (u, h.1))
halves_filled (suc place) (x ∷ xs) chunk lower upper g h l u = (h.0, halves_filled place xs chunk lower upper g h.1 l u)

take_some : {A : Type 0} (n : ℕ) (xs : List A) → 0 < n → n < length xs → 0 < length (take n xs)
take_some zero xs l m = absurd (omega arith)
take_some (suc n) [] l m = absurd (omega arith)
take_some (suc n) (x ∷ xs) l m = omega arith

drop_some : {A : Type 0} (n : ℕ) (xs : List A) → n < length xs → 0 < length (drop n xs)
drop_some n [] l = absurd (omega arith)
drop_some zero (x ∷ xs) l = omega arith
drop_some (suc n) (x ∷ xs) l = drop_some n xs (omega arith)

pub split_joined : (place middle : ℕ) (chunks : List (List Chain)) (chunk : List Chain) → slice_get chunks place ≡ Some chunk → joined (insert (slice_set chunks place (take middle chunk)) (place + 1) (drop middle chunk)) ≡ joined chunks
split_joined place middle chunks chunk g =
    let next : suc place ≡ place + 1 = omega arith in
    subst (λ i. joined (insert (slice_set chunks place (take middle chunk)) i (drop middle chunk)) ≡ joined chunks) next (halves_joined place middle chunks chunk g)

pub split_filled : (place middle : ℕ) (chunks : List (List Chain)) (chunk : List Chain) → slice_get chunks place ≡ Some chunk → AreFilled chunks → 0 < middle → middle < length chunk → AreFilled (insert (slice_set chunks place (take middle chunk)) (place + 1) (drop middle chunk))
split_filled place middle chunks chunk g h l m =
    let next : suc place ≡ place + 1 = omega arith in
    subst (λ i. AreFilled (insert (slice_set chunks place (take middle chunk)) i (drop middle chunk))) next (halves_filled place chunks chunk (take middle chunk) (drop middle chunk) g h (take_some middle chunk l m) (drop_some middle chunk m))

pub split_same : (place middle : ℕ) (chunks reserved new : List (List Chain)) (chunk lower upper : List Chain) → slice_get chunks place ≡ Some chunk → reserved ≡ chunks → lower ≡ take middle chunk → upper ≡ drop middle chunk → new ≡ insert (slice_set reserved place lower) (place + 1) upper → joined new ≡ joined chunks
split_same place middle chunks reserved new chunk lower upper g r l u e =
    ap joined e
    ∙ ap (λ (xs : List (List Chain)). joined (insert (slice_set xs place lower) (place + 1) upper)) r
    ∙ ap (λ (x : List Chain). joined (insert (slice_set chunks place x) (place + 1) upper)) l
    ∙ ap (λ (x : List Chain). joined (insert (slice_set chunks place (take middle chunk)) (place + 1) x)) u
    ∙ split_joined place middle chunks chunk g

pub split_some : (place middle : ℕ) (chunks reserved new : List (List Chain)) (chunk lower upper : List Chain) → slice_get chunks place ≡ Some chunk → reserved ≡ chunks → lower ≡ take middle chunk → upper ≡ drop middle chunk → new ≡ insert (slice_set reserved place lower) (place + 1) upper → AreFilled chunks → 0 < middle → middle < length chunk → AreFilled new
split_some place middle chunks reserved new chunk lower upper g r l u e h m n =
    subst AreFilled
    (sym (e
    ∙ ap (λ (xs : List (List Chain)). insert (slice_set xs place lower) (place + 1) upper) r
    ∙ ap (λ (x : List Chain). insert (slice_set chunks place x) (place + 1) upper) l
    ∙ ap (λ (x : List Chain). insert (slice_set chunks place (take middle chunk)) (place + 1) x) u))
    (split_filled place middle chunks chunk g h m n)

-- ---- keys in order

pub chains_parts : (xs ys : List Chain) → AreChains (xs ++ ys) → AreChains xs × AreChains ys
chains_parts [] ys h = (tt, h)
chains_parts (x ∷ xs) ys h = let r = chains_parts xs ys h.3 in (((all_parts (λ (later : Chain). is_below x.key later.key ≡ true) xs ys h.0).0, h.1, h.2, r.0), r.1)

pub chains_at : (place : ℕ) (chunks : List (List Chain)) (chunk : List Chain) → AreChains (joined chunks) → slice_get chunks place ≡ Some chunk → AreChains chunk
chains_at place [] chunk h g = cc
chains_at zero (x ∷ xs) chunk h g = let same : x ≡ chunk = cc in subst AreChains same (chains_parts x (joined xs) h).0
chains_at (suc place) (x ∷ xs) chunk h g = chains_at place xs chunk (chains_parts x (joined xs) h).1 g

pub upto_at : (version place : ℕ) (chunks : List (List Chain)) (chunk : List Chain) → AreUpto version (joined chunks) → slice_get chunks place ≡ Some chunk → AreUpto version chunk
upto_at version place [] chunk h g = cc
upto_at version zero (x ∷ xs) chunk h g = let same : x ≡ chunk = cc in subst (AreUpto version) same (all_parts (λ (c : Chain). AreRowsUpto version c.rows) x (joined xs) h).0
upto_at version (suc place) (x ∷ xs) chunk h g = upto_at version place xs chunk (all_parts (λ (c : Chain). AreRowsUpto version c.rows) x (joined xs) h).1 g

-- ---- where a key belongs

-- the first key of the chunk at a place has what all keys have
first_has : (P : Chain → Type 0) (place : ℕ) (chunks : List (List Chain)) (chunk : List Chain) (first : Chain) → slice_get chunks place ≡ Some chunk → slice_get chunk 0 ≡ Some first → AllByRecursion P (joined chunks) → P first
first_has P place [] chunk first g f h = cc
first_has P zero (x ∷ xs) chunk first g f h = let same : x ≡ chunk = cc in go x (ap (λ (c : List Chain). slice_get c 0) same ∙ f) (all_parts P x (joined xs) h).0
  where
    go : (c : List Chain) → slice_get c 0 ≡ Some first → AllByRecursion P c → P first
    go [] e k = cc
    go (y ∷ ys) e k = let s : y ≡ first = cc in subst P s k.0
first_has P (suc place) (x ∷ xs) chunk first g f h = first_has P place xs chunk first g f (all_parts P x (joined xs) h).1

-- the keys of a chunk are below the first key of a later one
pub before_first : (key : Bytes) (xs rest : List Chain) (first : Chain) → AreChains (xs ++ rest) → ((P : Chain → Type 0) → AllByRecursion P rest → P first) → is_below key first.key ≡ false → AreKeysBelow key xs
before_first key [] rest first h f e = tt
before_first key (x ∷ xs) rest first h f e = (below_up x.key key first.key (f (λ (d : Chain). is_below x.key d.key ≡ true) (all_parts (λ (later : Chain). is_below x.key later.key ≡ true) xs rest h.0).1) e, before_first key xs rest first h.3 f e)

pub below_upto : (key : Bytes) (place : ℕ) (chunks : List (List Chain)) (chunk : List Chain) (first : Chain) → AreChains (joined chunks) → slice_get chunks place ≡ Some chunk → slice_get chunk 0 ≡ Some first → is_below key first.key ≡ false → AreKeysBelow key (joined (take place chunks))
below_upto key place [] chunk first h g f e = cc
below_upto key zero (x ∷ xs) chunk first h g f e = tt
below_upto key (suc place) (x ∷ xs) chunk first h g f e =
    all_both (λ (c : Chain). is_below c.key key ≡ true) x (joined (take place xs))
    (before_first key x (joined xs) first h (λ P. first_has P place xs chunk first g f) e)
    (below_upto key place xs chunk first (chains_parts x (joined xs) h).1 g f e)

pub past_from : (key : Bytes) (place : ℕ) (chunks : List (List Chain)) (chunk : List Chain) (first : Chain) → AreChains (joined chunks) → slice_get chunks place ≡ Some chunk → slice_get chunk 0 ≡ Some first → is_below key first.key ≡ true → AreKeysPast key (joined (drop place chunks))
past_from key place [] chunk first h g f e = cc
past_from key zero (x ∷ xs) chunk first h g f e = let same : x ≡ chunk = cc in go x (ap (λ (c : List Chain). slice_get c 0) same ∙ f) h
  where
    go : (c : List Chain) → slice_get c 0 ≡ Some first → AreChains (c ++ joined xs) → AreKeysPast key (c ++ joined xs)
    go [] q k = cc
    go (y ∷ ys) q k =
        let s : y ≡ first = cc in
        let t : is_below key y.key ≡ true = ap (λ (d : Chain). is_below key d.key) s ∙ e in
        (t, all_weaker (λ (d : Chain). is_below y.key d.key ≡ true) (λ (d : Chain). is_below key d.key ≡ true) (λ d w. below_trans key y.key d.key t w) (ys ++ joined xs) k.0)
past_from key (suc place) (x ∷ xs) chunk first h g f e = past_from key place xs chunk first (chains_parts x (joined xs) h).1 g f e

-- what is past a key from a place on is so from a later one on
pub past_later : (key : Bytes) (n m : ℕ) (chunks : List (List Chain)) → n ≤ m → AreKeysPast key (joined (drop n chunks)) → AreKeysPast key (joined (drop m chunks))
past_later key n m [] l h = none m
  where
    none : (m : ℕ) → AreKeysPast key (joined (drop m []))
    none zero = tt
    none (suc m) = tt
past_later key zero zero (x ∷ xs) l h = h
past_later key zero (suc m) (x ∷ xs) l h = past_later key zero m xs (omega arith) (subst (λ (cs : List (List Chain)). AreKeysPast key (joined cs)) (sym (whole xs)) (all_parts (λ (c : Chain). is_below key c.key ≡ true) x (joined xs) h).1)
  where
    whole : (ys : List (List Chain)) → drop zero ys ≡ ys
    whole [] = refl
    whole (y ∷ ys) = refl
past_later key (suc n) zero (x ∷ xs) l h = absurd (omega arith)
past_later key (suc n) (suc m) (x ∷ xs) l h = past_later key n m xs (omega arith) h

pub none_past : (key : Bytes) (n : ℕ) (chunks : List (List Chain)) → length chunks ≤ n → AreKeysPast key (joined (drop n chunks))
none_past key zero [] l = tt
none_past key (suc n) [] l = tt
none_past key zero (x ∷ xs) l = absurd (omega arith)
none_past key (suc n) (x ∷ xs) l = none_past key n xs (omega arith)

pub none_below : (key : Bytes) (n : ℕ) (chunks : List (List Chain)) → n ≡ 0 → AreKeysBelow key (joined (take n chunks))
none_below key n chunks e = subst (λ i. AreKeysBelow key (joined (take i chunks))) (sym e) (subst (λ (cs : List (List Chain)). AreKeysBelow key (joined cs)) (sym (take_none chunks)) tt)

-- ---- its rows

pub rows_joined : (key : Bytes) (before chunk behind : List Chain) → AreKeysBelow key before → AreKeysPast key behind → rows_of (before ++ (chunk ++ behind)) key ≡ rows_of chunk key
rows_joined key [] chunk behind b p = in_chunk chunk
  where
    in_chunk : (xs : List Chain) → rows_of (xs ++ behind) key ≡ rows_of xs key
    in_chunk [] = later_keys key behind p
    in_chunk (x ∷ xs) = ap (λ (rs : List Row). cond (is_same x.key key) x.rows rs) (in_chunk xs)
rows_joined key (c ∷ cs) chunk behind b p = let e = below_not_same c.key key b.0 in rw e (rows_joined key cs chunk behind b.1 p)

pub rows_belong : (key : Bytes) (place : ℕ) (chunks : List (List Chain)) (chunk : List Chain) → BelongsTo key place chunks → slice_get chunks place ≡ Some chunk → rows_of chunk key ≡ rows_of (joined chunks) key
rows_belong key place chunks chunk b g = sym (ap (λ (cs : List Chain). rows_of cs key) (parted place chunks chunk g) ∙ rows_joined key (joined (take place chunks)) chunk (joined (drop (suc place) chunks)) b.before b.behind)

-- the looks for the chunk, and then those in it
pub read_bound : (place : ℕ) (chunks : List (List Chain)) (chunk : List Chain) (key : Bytes) (start between now : ℕ) → AreFilled chunks → BelongsTo key place chunks → slice_get chunks place ≡ Some chunk
    → ((d : ℕ) → length chunks < 2 ^ d → between ≤ start + d)
    → ((d e : ℕ) → length chunk < 2 ^ d → length (rows_of chunk key) < 2 ^ e → now ≤ between + d + e + 2)
    → (d e : ℕ) → length (joined chunks) < 2 ^ d → length (rows_of (joined chunks) key) < 2 ^ e → now ≤ start + (2 * d + e + 2)
read_bound place chunks chunk key start between now f b g first second d e few rows =
    let many = fewer_chunks chunks f in
    let long = shorter_chunk place chunks chunk g in
    let same : length (rows_of chunk key) ≡ length (rows_of (joined chunks) key) = ap length (rows_belong key place chunks chunk b g) in
    let one = first d (omega arith) in
    let two = second d e (omega arith) (omega arith) in
    omega arith

pub put_joined : (key : Bytes) (row : Row) (before chunk behind : List Chain) → AreKeysBelow key before → AreKeysPast key behind → put_at key row (before ++ (chunk ++ behind)) ≡ before ++ (put_at key row chunk ++ behind)
put_joined key row [] chunk behind b p = in_chunk chunk
  where
    behind_it : (xs : List Chain) → AreKeysPast key xs → put_at key row xs ≡ record { key = key; rows = row ∷ [] } ∷ xs
    behind_it [] h = refl
    behind_it (x ∷ xs) h = let e = below_not_back key x.key h.0 in let f = above_not_same x.key key h.0 in rw (e, f) refl

    in_chunk : (xs : List Chain) → put_at key row (xs ++ behind) ≡ put_at key row xs ++ behind
    in_chunk [] = behind_it behind p
    in_chunk (x ∷ xs) = go (is_below x.key key) refl (is_same x.key key) refl (in_chunk xs)
      where
        go : (s : Bool) → is_below x.key key ≡ s → (t : Bool) → is_same x.key key ≡ t → put_at key row (xs ++ behind) ≡ put_at key row xs ++ behind → put_at key row (x ∷ xs ++ behind) ≡ put_at key row (x ∷ xs) ++ behind
        go true e t f ih = rw e (ap (λ (cs : List Chain). x ∷ cs) ih)
        go false e true f ih = rw (e, f) refl
        go false e false f ih = rw (e, f) refl
put_joined key row (c ∷ cs) chunk behind b p = let e = b.0 in rw e (ap (λ (xs : List Chain). c ∷ xs) (put_joined key row cs chunk behind b.1 p))

pub put_belongs : (key : Bytes) (row : Row) (place : ℕ) (chunks : List (List Chain)) (chunk : List Chain) → place < length chunks → BelongsTo key place chunks → slice_get chunks place ≡ Some chunk → joined (slice_set chunks place (put_at key row chunk)) ≡ put_at key row (joined chunks)
put_belongs key row place chunks chunk l b g =
    set_parted place chunks (put_at key row chunk) l
    ∙ sym (ap (put_at key row) (parted place chunks chunk g) ∙ put_joined key row (joined (take place chunks)) chunk (joined (drop (suc place) chunks)) b.before b.behind)

pub put_some : (key : Bytes) (row : Row) (chains : List Chain) → 0 < length (put_at key row chains)
put_some key row [] = omega arith
put_some key row (c ∷ cs) = by_test (is_below c.key key) (λ (xs : List Chain). 0 < length xs) (c ∷ put_at key row cs) (cond (is_same c.key key) (record { key = c.key; rows = put_row row c.rows } ∷ cs) (record { key = key; rows = row ∷ [] } ∷ c ∷ cs)) (λ e. omega arith) (λ e. by_test (is_same c.key key) (λ (xs : List Chain). 0 < length xs) (record { key = c.key; rows = put_row row c.rows } ∷ cs) (record { key = key; rows = row ∷ [] } ∷ c ∷ cs) (λ f. omega arith) (λ f. omega arith))

pub put_filled : (key : Bytes) (row : Row) (place : ℕ) (chunks : List (List Chain)) (chunk : List Chain) → AreFilled chunks → AreFilled (slice_set chunks place (put_at key row chunk))
put_filled key row place chunks chunk h = filled_set place chunks (put_at key row chunk) h (put_some key row chunk)

-- ---- how many keys there are

count_upto : (place : ℕ) (chunks : List (List Chain)) (chunk : List Chain) → slice_get chunks place ≡ Some chunk → length (joined (take (suc place) chunks)) ≡ length (joined (take place chunks)) + length chunk
count_upto place [] chunk g = cc
count_upto zero (x ∷ xs) chunk g =
    let same : x ≡ chunk = cc in
    let long = ap length same in
    let first = ap (λ (ys : List (List Chain)). length (joined ys)) (take_none (x ∷ xs)) in
    let behind = ap (λ (ys : List (List Chain)). length (joined ys)) (take_none xs) in
    let both = length_both x (joined (take zero xs)) in
    omega arith
count_upto (suc place) (x ∷ xs) chunk g =
    let rest = count_upto place xs chunk g in
    let more = length_both x (joined (take (suc place) xs)) in
    let less = length_both x (joined (take place xs)) in
    omega arith

pub count_next : (place : ℕ) (chunks : List (List Chain)) (chunk : List Chain) → slice_get chunks place ≡ Some chunk → length (joined (take (place + 1) chunks)) ≡ length (joined (take place chunks)) + length chunk
count_next place chunks chunk g =
    let next : suc place ≡ place + 1 = omega arith in
    subst (λ i. length (joined (take i chunks)) ≡ length (joined (take place chunks)) + length chunk) next (count_upto place chunks chunk g)
