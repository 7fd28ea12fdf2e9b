-- How many keys a piece has, and how many pieces there are.
use Rattle.std.proofs.Common.{◌≡◌, ℕ, suc, ◌+◌, ◌*◌, ◌/◌, ◌%◌, ◌≤◌, ◌<◌, ◌↔◌, inl, inr, Bool, true, false, not, ◌&&◌, ◌||◌, nat_eq, List, [], ◌∷◌, ◌++◌, length, refl, sym, ap, ◌∙◌, subst, arith, length-append}
use Rattle.std.proofs.lemmas.Bool.{cond-true, cond-false, eqb-true, eqb-false, ne_eqb}
use Rattle.std.proofs.lemmas.Nat.{mod-mul-add}
use Rattle.std.proofs.Math.Arith.{lt_of_le-ne}
use Rattle.std.proofs.Math.Nat.{add-mod_right, mul-mod_left, add-mul, suc-mul, mul_comm, le-div_iff_mul-le, add-mul-div_left}
use Rattle.std.specs.List.{AllByRecursion}
use Rattle.fb_bytes.specs.Bytes.{Bytes, is_below}
use Rattle.fb_bytes.specs.declared.KeyRange.{KeyRange}
use Rattle.fb_bytes.specs.Keys.{holds, AreSeparate}
use Rattle.fb_bytes.specs.Options.{IsIn}
use Rattle.fb_bytes.specs.declared.Pair.{Pair}
use Rattle.fb_bytes.specs.Pairs.{AreRising}
use Rattle.fb_bytes.proofs.Order.{below_trans, below_itself, below_not_back, not_both}
use Rattle.snapshot_plan.specs.Plans.{keys_in, place_in, is_cut, cuts, cut_before, pieces_in, pieces, PlanLaw}
use Rattle.snapshot_plan.specs.inner.Splits.{until_key, from_key}
use Rattle.snapshot_plan.proofs.Walking.{by, holds_parts, holds_from, not_before, not_past}
use Rattle.snapshot_plan.proofs.Cutting.{AreInside, inside_from, inside_keys, Starts, starts, two_parts, none_past, from_rising, plan_from, is_plan}

-- ---- where a cut is: behind as many keys as the shard

not_zero : (n : ℕ) → 1 ≤ n → nat_eq n 0 ≡ false
not_zero n h = ne_eqb n 0 (λ e. omega arith)

-- so many keys stand in the piece that goes on, fewer than the shard
no_cut : (shard q f place : ℕ) → 1 ≤ f → f < shard → place ≡ q * shard + f → is_cut shard place ≡ false
no_cut shard q f place low high e =
    let rest : place % shard ≡ f = ap (λ n. n % shard) e ∙ mod-mul-add q shard f high in
    second (not (nat_eq place 0)) (nat_eq (place % shard) 0) (ap (λ n. nat_eq n 0) rest ∙ not_zero f low)
  where
    second : (a b : Bool) → b ≡ false → (a && b) ≡ false
    second true b h = h
    second false b h = refl

full_cut : (shard q place : ℕ) → 1 ≤ shard → place ≡ q * shard + shard → is_cut shard place ≡ true
full_cut shard q place low e =
    let rest : place % shard ≡ 0 = ap (λ n. n % shard) e ∙ add-mod_right (q * shard) shard ∙ mul-mod_left q shard in
    both (nat_eq place 0) (nat_eq (place % shard) 0) (not_zero place (some place (q * shard) shard e low)) (ap (λ n. nat_eq n 0) rest)
  where
    both : (a b : Bool) → a ≡ false → b ≡ true → (not a && b) ≡ true
    both true b h g = not_both refl h
    both false b h g = g

    some : (n m k : ℕ) → n ≡ m + k → 1 ≤ k → 1 ≤ n
    some n m k e h = omega arith

-- both cases of the next key
by_cut : {P : Type 0} (shard q f place : ℕ) → 1 ≤ f → f ≤ shard → place ≡ q * shard + f → (is_cut shard place ≡ true → f ≡ shard → P) → (is_cut shard place ≡ false → f < shard → P) → P
by_cut {P = P} shard q f place low high e t g = go (nat_eq f shard) refl
  where
    go : (b : Bool) → nat_eq f shard ≡ b → P
    go true s = let full : f ≡ shard = eqb-true f shard s in t (full_cut shard q place (omega arith) (e ∙ ap (λ n. q * shard + n) full)) full
    go false s = let part : f < shard = lt_of_le-ne high (eqb-false f shard s) in g (no_cut shard q f place low part e) part

-- the next key's place
next_full : (shard q f place : ℕ) → place ≡ q * shard + f → f ≡ shard → place + 1 ≡ (q + 1) * shard + 1
next_full shard q f place e full = go (q * shard) ((q + 1) * shard) (add-mul q 1 shard) e
  where
    go : (a b : ℕ) → b ≡ a + 1 * shard → place ≡ a + f → place + 1 ≡ b + 1
    go a b m e = omega arith

next_part : (place a f : ℕ) → place ≡ a + f → place + 1 ≡ a + (f + 1)
next_part place a f e = omega arith

-- ---- how many cuts

cuts_few : (shard q f place : ℕ) (ks : List Bytes) → 1 ≤ f → f ≤ shard → place ≡ q * shard + f → length (cuts shard place ks) * shard ≤ f + length ks
cuts_few shard q f place [] low high e = omega arith
cuts_few shard q f place (k ∷ ks) low high e = by_cut shard q f place low high e
    (λ t full. few_full (length (cuts shard place (k ∷ ks))) (length (cuts shard (place + 1) ks)) (length ks) (ap length (cond-true (is_cut shard place) (k ∷ cuts shard (place + 1) ks) (cuts shard (place + 1) ks) t)) full
    (cuts_few shard (q + 1) 1 (place + 1) ks (omega arith) (omega arith) (next_full shard q f place e full)))
    (λ t part. few_part (length (cuts shard place (k ∷ ks)) * shard) (length (cuts shard (place + 1) ks) * shard) (length ks) (ap (λ xs. length xs * shard) (cond-false (is_cut shard place) (k ∷ cuts shard (place + 1) ks) (cuts shard (place + 1) ks) t))
    (cuts_few shard q (f + 1) (place + 1) ks (omega arith) (omega arith) (next_part place (q * shard) f e)))
  where
    few_full : (l c n : ℕ) → l ≡ suc c → f ≡ shard → c * shard ≤ 1 + n → l * shard ≤ f + suc n
    few_full l c n h full le = go (l * shard) (c * shard) (ap (λ m. m * shard) h ∙ suc-mul c shard) le
      where
        go : (a b : ℕ) → a ≡ b + shard → b ≤ 1 + n → a ≤ f + suc n
        go a b h le = omega arith

    few_part : (a b n : ℕ) → a ≡ b → b ≤ (f + 1) + n → a ≤ f + suc n
    few_part a b n h le = omega arith

range_few : (shard : ℕ) (ks : List Bytes) → 1 ≤ shard → length (cuts shard 0 ks) * shard ≤ length ks
range_few shard [] low = omega arith
range_few shard (k ∷ ks) low = up (length (cuts shard 1 ks) * shard) (length ks) (cuts_few shard 0 1 1 ks (omega arith) low (omega arith))
  where
    up : (a n : ℕ) → a ≤ 1 + n → a ≤ suc n
    up a n h = omega arith

cut_length : (ks : List Bytes) (r : KeyRange) → length (cut_before ks r) ≡ suc (length ks)
cut_length [] r = refl
cut_length (k ∷ ks) r = ap suc (cut_length ks (record { begin = k; end = r.end }))

-- ---- how many pieces

parted_length : (key : Bytes) (ps : List Pair) → length ps ≡ length (until_key key ps) + length (from_key key ps)
parted_length key [] = refl
parted_length key (p ∷ ps) = by (is_below p.key key)
    (λ t. go (length ps) (length (until_key key ps)) (length (from_key key ps)) (length (until_key key (p ∷ ps))) (length (from_key key (p ∷ ps))) (parted_length key ps) (ap length (cond-true (is_below p.key key) (p ∷ until_key key ps) [] t)) (ap length (cond-true (is_below p.key key) (from_key key ps) (p ∷ ps) t)))
    (λ f. stop (length ps) (length (until_key key (p ∷ ps))) (length (from_key key (p ∷ ps))) (ap length (cond-false (is_below p.key key) (p ∷ until_key key ps) [] f)) (ap length (cond-false (is_below p.key key) (from_key key ps) (p ∷ ps) f)))
  where
    go : (n u f v g : ℕ) → n ≡ u + f → v ≡ suc u → g ≡ f → suc n ≡ v + g
    go n u f v g h i j = omega arith

    stop : (n v g : ℕ) → v ≡ 0 → g ≡ suc n → suc n ≡ v + g
    stop n v g i j = omega arith

keys_few : (r : KeyRange) (ps : List Pair) → AreRising ps → length (keys_in r ps) ≤ length (until_key r.end ps)
keys_few r [] rising = omega arith
keys_few r (p ∷ ps) rising = by (is_below p.key r.end)
    (λ t.
    by (holds r p.key)
    (λ h. go (length (keys_in r ps)) (length (until_key r.end ps)) (length (keys_in r (p ∷ ps))) (length (until_key r.end (p ∷ ps))) (keys_few r ps rising.1) (at_most_suc (length (keys_in r (p ∷ ps))) (length (keys_in r ps)) (ap length (cond-true (holds r p.key) (p.key ∷ keys_in r ps) (keys_in r ps) h))) (ap length (cond-true (is_below p.key r.end) (p ∷ until_key r.end ps) [] t)))
    (λ h. go (length (keys_in r ps)) (length (until_key r.end ps)) (length (keys_in r (p ∷ ps))) (length (until_key r.end (p ∷ ps))) (keys_few r ps rising.1) (at_most_same (length (keys_in r (p ∷ ps))) (length (keys_in r ps)) (ap length (cond-false (holds r p.key) (p.key ∷ keys_in r ps) (keys_in r ps) h))) (ap length (cond-true (is_below p.key r.end) (p ∷ until_key r.end ps) [] t))))
    (λ f. none (length (keys_in r (p ∷ ps))) (length (until_key r.end (p ∷ ps))) (ap length (none_past r p ps f rising)))
  where
    at_most_suc : (a n : ℕ) → a ≡ suc n → a ≤ suc n
    at_most_suc a n h = omega arith

    at_most_same : (a n : ℕ) → a ≡ n → a ≤ suc n
    at_most_same a n h = omega arith

    go : (n u a v : ℕ) → n ≤ u → a ≤ suc n → v ≡ suc u → a ≤ v
    go n u a v h i j = omega arith

    none : (a v : ℕ) → a ≡ 0 → a ≤ v
    none a v h = omega arith

few_all : (shard : ℕ) (ps : List Pair) (rs : List KeyRange) → 1 ≤ shard → AreRising ps → AreSeparate rs → length (pieces shard ps rs) * shard ≤ length rs * shard + length ps
few_all shard ps [] low rising s = omega arith
few_all shard ps (r ∷ rs) low rising s = go (length (pieces shard ps (r ∷ rs))) (length own) (length more) (length rs)
    (length-append (pieces_in shard ps r) more ∙ ap (λ n. n + length more) (cut_length own r))
    (range_few shard (keys_in r ps) low) (keys_few r ps rising) (parted_length r.end ps)
    (subst (λ xs. length xs * shard ≤ length rs * shard + length (from_key r.end ps)) (plan_from shard r.end ps rs s.1 s.2) (few_all shard (from_key r.end ps) rs low (from_rising r.end ps rising) s.2))
  where
    own : List Bytes
    own = cuts shard 0 (keys_in r ps)

    more : List KeyRange
    more = pieces shard ps rs

    sums : (l c b n a d m u f p : ℕ) → l ≡ (d + shard) + b → a ≡ n + shard → d ≤ c → c ≤ u → p ≡ u + f → b ≤ n + f → l ≤ a + p
    sums l c b n a d m u f p h i j k o q = omega arith

    go : (l c b n : ℕ) → l ≡ suc c + b → c * shard ≤ length (keys_in r ps) → length (keys_in r ps) ≤ length (until_key r.end ps) → length ps ≡ length (until_key r.end ps) + length (from_key r.end ps) → b * shard ≤ n * shard + length (from_key r.end ps) → l * shard ≤ suc n * shard + length ps
    go l c b n h few keys parts rest =
        sums (l * shard) (length (keys_in r ps)) (b * shard) (n * shard) (suc n * shard) (c * shard) 0 (length (until_key r.end ps)) (length (from_key r.end ps)) (length ps)
        (ap (λ m. m * shard) h ∙ add-mul (suc c) b shard ∙ ap (λ m. m + b * shard) (suc-mul c shard))
        (suc-mul n shard) few keys parts rest

few : (shard : ℕ) (ps : List Pair) (rs : List KeyRange) → 1 ≤ shard → AreRising ps → AreSeparate rs → length (pieces shard ps rs) ≤ length rs + length ps / shard
few shard ps rs low rising s =
    let some = positive shard low in
    let all : length (pieces shard ps rs) * shard ≤ length ps + shard * length rs = turned (length (pieces shard ps rs) * shard) (length rs * shard) (shard * length rs) (length ps) (mul_comm (length rs) shard) (few_all shard ps rs low rising s) in
    let most : length (pieces shard ps rs) ≤ (length ps + shard * length rs) / shard = (le-div_iff_mul-le {k = shard} {x = length (pieces shard ps rs)} {y = length ps + shard * length rs} some).1 all in
    parted (length (pieces shard ps rs)) ((length ps + shard * length rs) / shard) (length ps / shard) (length rs) most (add-mul-div_left (length ps) (length rs) {y = shard} some)
  where
    positive : (n : ℕ) → 1 ≤ n → 0 < n
    positive n h = omega arith

    turned : (l a b k : ℕ) → a ≡ b → l ≤ a + k → l ≤ k + b
    turned l a b k h i = omega arith

    parted : (l d q n : ℕ) → l ≤ d → d ≡ q + n → l ≤ n + q
    parted l d q n h i = omega arith

-- ---- how many keys a piece has

abbrev one_if : Bool → ℕ
one_if true = 1
one_if false = 0

size_none : (r : KeyRange) (p : Pair) (ps : List Pair) → holds r p.key ≡ false → length (keys_in r (p ∷ ps)) ≡ length (keys_in r ps)
size_none r p ps h = ap length (cond-false (holds r p.key) (p.key ∷ keys_in r ps) (keys_in r ps) h)

size_one : (r : KeyRange) (p : Pair) (ps : List Pair) → holds r p.key ≡ true → length (keys_in r (p ∷ ps)) ≡ 1 + length (keys_in r ps)
size_one r p ps h = ap length (cond-true (holds r p.key) (p.key ∷ keys_in r ps) (keys_in r ps) h) ∙ suc_is (length (keys_in r ps))
  where
    suc_is : (n : ℕ) → suc n ≡ 1 + n
    suc_is n = omega arith

size_step : (r : KeyRange) (p : Pair) (ps : List Pair) (b : Bool) → holds r p.key ≡ b → length (keys_in r (p ∷ ps)) ≡ one_if b + length (keys_in r ps)
size_step r p ps true h = size_one r p ps h
size_step r p ps false h = size_none r p ps h ∙ zero_is (length (keys_in r ps))
  where
    zero_is : (n : ℕ) → n ≡ 0 + n
    zero_is n = omega arith

-- the keys of two pieces that touch
size_two : (b k e : Bytes) (ps : List Pair) → is_below k b ≡ false → is_below e k ≡ false → length (keys_in (record { begin = b; end = k }) ps) + length (keys_in (record { begin = k; end = e }) ps) ≡ length (keys_in (record { begin = b; end = e }) ps)
size_two b k e [] h g = refl
size_two b k e (p ∷ ps) h g =
    sums (length (keys_in front ps)) (length (keys_in back ps)) (length (keys_in whole ps)) (length (keys_in front (p ∷ ps))) (length (keys_in back (p ∷ ps))) (length (keys_in whole (p ∷ ps))) (one_if (holds front p.key)) (one_if (holds back p.key)) (one_if (holds whole p.key))
    (size_step front p ps (holds front p.key) refl) (size_step back p ps (holds back p.key) refl) (size_step whole p ps (holds whole p.key) refl) (size_two b k e ps h g)
    (load (holds front p.key) (holds back p.key) (holds whole p.key) (two_parts b k e p.key h g) (by (is_below p.key k) (λ t. no_second (holds front p.key) (holds back p.key) (not_before back p.key t)) (λ f. no_first (holds front p.key) (holds back p.key) (not_past front p.key f))))
  where
    front : KeyRange
    front = record { begin = b; end = k }

    back : KeyRange
    back = record { begin = k; end = e }

    whole : KeyRange
    whole = record { begin = b; end = e }

    load : (x y z : Bool) → (x || y) ≡ z → (x && y) ≡ false → one_if x + one_if y ≡ one_if z
    load true true z h g = not_both refl g
    load true false true h g = refl
    load true false false h g = not_both refl h
    load false true true h g = refl
    load false true false h g = not_both refl h
    load false false true h g = not_both h refl
    load false false false h g = refl

    no_first : (x y : Bool) → x ≡ false → (x && y) ≡ false
    no_first true y h = not_both refl h
    no_first false y h = refl

    no_second : (x y : Bool) → y ≡ false → (x && y) ≡ false
    no_second true y h = h
    no_second false y h = refl

    sums : (m n o x y z a c d : ℕ) → x ≡ a + m → y ≡ c + n → z ≡ d + o → m + n ≡ o → a + c ≡ d → x + y ≡ z
    sums m n o x y z a c d h i j k l = omega arith

place_is : (n m : ℕ) → 0 + n ≡ m → n ≡ m
place_is n m h = omega arith

piece_small : (x y z place f shard : ℕ) → x + y ≡ z → 0 + z ≡ place → x + f ≡ place → f ≤ shard → y ≤ shard
piece_small x y z place f shard h i j k = omega arith

-- the keys of the range before a key
abbrev before : KeyRange → Bytes → KeyRange
before r key = record { begin = r.begin; end = key }

-- each key has as many keys of the range before it as its place says, when some were counted already
abbrev AtPlaces : ℕ → KeyRange → List Pair → ℕ → List Bytes → Type 0
AtPlaces c r ps place [] = c + length (keys_in r ps) ≡ place
AtPlaces c r ps place (k ∷ ks) = (c + length (keys_in (before r k) ps) ≡ place) × AtPlaces c r ps (place + 1) ks

-- a key that isn't in the range
shift_none : (c : ℕ) (r : KeyRange) (p : Pair) (ps : List Pair) (place : ℕ) (ks : List Bytes) → is_below p.key r.begin ≡ true → AtPlaces c r ps place ks → AtPlaces c r (p ∷ ps) place ks
shift_none c r p ps place [] h a = ap (λ n. c + n) (size_none r p ps (not_before r p.key h)) ∙ a
shift_none c r p ps place (k ∷ ks) h a = (ap (λ n. c + n) (size_none (before r k) p ps (not_before (before r k) p.key h)) ∙ a.0, shift_none c r p ps (place + 1) ks h a.1)

-- a key of the range that is below the others
shift_one : (c : ℕ) (r : KeyRange) (p : Pair) (ps : List Pair) (place : ℕ) (ks : List Bytes) → holds r p.key ≡ true → AreInside p.key r.end ks → AtPlaces (c + 1) r ps place ks → AtPlaces c r (p ∷ ps) place ks
shift_one c r p ps place [] h i a = sums c (length (keys_in r ps)) (length (keys_in r (p ∷ ps))) place (size_one r p ps h) a
  where
    sums : (c n m place : ℕ) → m ≡ 1 + n → (c + 1) + n ≡ place → c + m ≡ place
    sums c n m place h g = omega arith
shift_one c r p ps place (k ∷ ks) h i a = (
  sums c (length (keys_in (before r k) ps)) (length (keys_in (before r k) (p ∷ ps))) place (size_one (before r k) p ps (holds_from (before r k) p.key (holds_parts r p.key h).0 i.0)) a.0,
  shift_one c r p ps (place + 1) ks h (inside_from p.key k r.end ks (below_not_back p.key k i.0) i.1) a.1,
)
  where
    sums : (c n m place : ℕ) → m ≡ 1 + n → (c + 1) + n ≡ place → c + m ≡ place
    sums c n m place h g = omega arith

places : (c : ℕ) (r : KeyRange) (ps : List Pair) → AreRising ps → AtPlaces c r ps c (keys_in r ps)
places c r [] rising = omega arith
places c r (p ∷ ps) rising = by (holds r p.key)
    (λ t. subst (λ xs. AtPlaces c r (p ∷ ps) c xs) (sym (cond-true (holds r p.key) (p.key ∷ keys_in r ps) (keys_in r ps) t)) (
      none c (length (keys_in (before r p.key) (p ∷ ps))) (ap length (none_past (before r p.key) p ps (below_itself p.key) rising)),
      shift_one c r p ps (c + 1) (keys_in r ps) t (inside_keys p.key r ps (holds_parts r p.key t).1 rising.0 rising.1) (places (c + 1) r ps rising.1),
    ))
    (λ f.
    by (is_below p.key r.end)
    (λ e. subst (λ xs. AtPlaces c r (p ∷ ps) c xs) (sym (cond-false (holds r p.key) (p.key ∷ keys_in r ps) (keys_in r ps) f))
    (shift_none c r p ps c (keys_in r ps) (by (is_below p.key r.begin) (λ h. h) (λ h. not_both (holds_from r p.key h e) f)) (places c r ps rising.1)))
    (λ e. subst (λ xs. AtPlaces c r (p ∷ ps) c xs) (sym (none_past r p ps e rising)) (none c (length (keys_in r (p ∷ ps))) (ap length (none_past r p ps e rising)))))
  where
    none : (c n : ℕ) → n ≡ 0 → c + n ≡ c
    none c n h = omega arith

-- ---- no piece has more keys than the shard

-- the piece that goes on has f keys so far
small_cuts : (shard q f place : ℕ) (r : KeyRange) (b : Bytes) (ps : List Pair) (ks : List Bytes) → 1 ≤ f → f ≤ shard → place ≡ q * shard + f → length (keys_in (before r b) ps) + f ≡ place → is_below b r.begin ≡ false → AreInside b r.end ks → AtPlaces 0 r ps place ks → AllByRecursion (λ piece. length (keys_in piece ps) ≤ shard) (cut_before (cuts shard place ks) (record { begin = b; end = r.end }))
small_cuts shard q f place r b ps [] low high e so from i a =
    (piece_small (length (keys_in (before r b) ps)) (length (keys_in (record { begin = b; end = r.end }) ps)) (length (keys_in r ps)) place f shard (size_two r.begin b r.end ps from (below_not_back b r.end i)) a so high, tt)
small_cuts shard q f place r b ps (k ∷ ks) low high e so from i a = by_cut shard q f place low high e
    (λ t full.
    subst (λ xs. AllByRecursion (λ piece. length (keys_in piece ps) ≤ shard) (cut_before xs (record { begin = b; end = r.end }))) (sym (cond-true (is_cut shard place) (k ∷ cuts shard (place + 1) ks) (cuts shard (place + 1) ks) t)) (
      piece_small (length (keys_in (before r b) ps)) (length (keys_in (record { begin = b; end = k }) ps)) (length (keys_in (before r k) ps)) place f shard (size_two r.begin b k ps from (below_not_back b k i.0)) a.0 so high,
      small_cuts shard (q + 1) 1 (place + 1) r k ps ks (omega arith) (omega arith) (next_full shard q f place e full) (ap (λ n. n + 1) (place_is (length (keys_in (before r k) ps)) place a.0)) (by (is_below k r.begin) (λ h. not_both (below_trans b k r.begin i.0 h) from) (λ h. h)) i.1 a.1,
    ))
    (λ t part.
    subst (λ xs. AllByRecursion (λ piece. length (keys_in piece ps) ≤ shard) (cut_before xs (record { begin = b; end = r.end }))) (sym (cond-false (is_cut shard place) (k ∷ cuts shard (place + 1) ks) (cuts shard (place + 1) ks) t))
    (small_cuts shard q (f + 1) (place + 1) r b ps ks (omega arith) (omega arith) (next_part place (q * shard) f e) (sym (next_part place (length (keys_in (before r b) ps)) f (sym so))) from (inside_from b k r.end ks (below_not_back b k i.0) i.1) a.1))

small_range : (shard : ℕ) (r : KeyRange) (ps : List Pair) → 1 ≤ shard → AreRising ps → AllByRecursion (λ piece. length (keys_in piece ps) ≤ shard) (pieces_in shard ps r)
small_range shard r ps low rising = go (keys_in r ps) (starts r ps rising) (places 0 r ps rising)
  where
    go : (ks : List Bytes) → Starts r ks → AtPlaces 0 r ps 0 ks → AllByRecursion (λ piece. length (keys_in piece ps) ≤ shard) (cut_before (cuts shard 0 ks) r)
    go [] s a = (empty (length (keys_in r ps)) a, tt)
      where
        empty : (n : ℕ) → 0 + n ≡ 0 → n ≤ shard
        empty n h = omega arith
    go (k ∷ ks) s a = small_cuts shard 0 1 1 r r.begin ps ks (omega arith) low (omega arith) (ap (λ n. n + 1) (nothing (length (keys_in (before r r.begin) ps)) (size_two r.begin r.begin r.begin ps (below_itself r.begin) (below_itself r.begin)))) (below_itself r.begin) (inside_from r.begin k r.end ks s.0 s.1) a.1
      where
        nothing : (n : ℕ) → n + n ≡ n → n ≡ 0
        nothing n h = omega arith

all_append : (P : KeyRange → Type 0) (xs ys : List KeyRange) → AllByRecursion P xs → AllByRecursion P ys → AllByRecursion P (xs ++ ys)
all_append P [] ys a b = b
all_append P (x ∷ xs) ys a b = (a.0, all_append P xs ys a.1 b)

small : (shard : ℕ) (ps : List Pair) (rs : List KeyRange) → 1 ≤ shard → AreRising ps → AllByRecursion (λ piece. length (keys_in piece ps) ≤ shard) (pieces shard ps rs)
small shard ps [] low rising = tt
small shard ps (r ∷ rs) low rising = all_append (λ piece. length (keys_in piece ps) ≤ shard) (pieces_in shard ps r) (pieces shard ps rs) (small_range shard r ps low rising) (small shard ps rs low rising)

-- ---- which keys the cuts are before

cut_there : (shard : ℕ) (r : KeyRange) (ps : List Pair) (place : ℕ) (key : Bytes) (ks : List Bytes) → AtPlaces 0 r ps place ks → IsIn key (cuts shard place ks) → IsIn key ks × (is_cut shard (place_in r ps key) ≡ true)
cut_there shard r ps place key [] a i = absurd i
cut_there shard r ps place key (k ∷ ks) a i = by (is_cut shard place)
    (λ t. found t (λ j. cut_there shard r ps (place + 1) key ks a.1 j) (subst (λ xs. IsIn key xs) (cond-true (is_cut shard place) (k ∷ cuts shard (place + 1) ks) (cuts shard (place + 1) ks) t) i))
    (λ f. behind (cut_there shard r ps (place + 1) key ks a.1 (subst (λ xs. IsIn key xs) (cond-false (is_cut shard place) (k ∷ cuts shard (place + 1) ks) (cuts shard (place + 1) ks) f) i)))
  where
    behind : IsIn key ks × (is_cut shard (place_in r ps key) ≡ true) → IsIn key (k ∷ ks) × (is_cut shard (place_in r ps key) ≡ true)
    behind h = (inr h.0, h.1)

    found : is_cut shard place ≡ true → (IsIn key (cuts shard (place + 1) ks) → IsIn key ks × (is_cut shard (place_in r ps key) ≡ true)) → IsIn key (k ∷ cuts shard (place + 1) ks) → IsIn key (k ∷ ks) × (is_cut shard (place_in r ps key) ≡ true)
    found t rest (inl e) = (inl e, ap (is_cut shard) (ap (place_in r ps) e ∙ place_is (place_in r ps k) place a.0) ∙ t)
    found t rest (inr j) = behind (rest j)

there_cut : (shard : ℕ) (r : KeyRange) (ps : List Pair) (place : ℕ) (key : Bytes) (ks : List Bytes) → AtPlaces 0 r ps place ks → IsIn key ks → is_cut shard (place_in r ps key) ≡ true → IsIn key (cuts shard place ks)
there_cut shard r ps place key [] a i c = absurd i
there_cut shard r ps place key (k ∷ ks) a (inl e) c =
    let t : is_cut shard place ≡ true = ap (is_cut shard) (sym (ap (place_in r ps) e ∙ place_is (place_in r ps k) place a.0)) ∙ c in
    subst (λ xs. IsIn key xs) (sym (cond-true (is_cut shard place) (k ∷ cuts shard (place + 1) ks) (cuts shard (place + 1) ks) t)) (inl e)
there_cut shard r ps place key (k ∷ ks) a (inr j) c =
    let more = there_cut shard r ps (place + 1) key ks a.1 j c in
    by (is_cut shard place)
    (λ t. subst (λ xs. IsIn key xs) (sym (cond-true (is_cut shard place) (k ∷ cuts shard (place + 1) ks) (cuts shard (place + 1) ks) t)) (inr more))
    (λ f. subst (λ xs. IsIn key xs) (sym (cond-false (is_cut shard place) (k ∷ cuts shard (place + 1) ks) (cuts shard (place + 1) ks) f)) more)

cut : (shard : ℕ) (ps : List Pair) (r : KeyRange) (key : Bytes) → AreRising ps → IsIn key (cuts shard 0 (keys_in r ps)) ↔ (IsIn key (keys_in r ps) × (is_cut shard (place_in r ps key) ≡ true))
cut shard ps r key rising =
    let a = places 0 r ps rising in
    (λ i. cut_there shard r ps 0 key (keys_in r ps) a i, λ h. there_cut shard r ps 0 key (keys_in r ps) a h.0 h.1)

pub plan_law : PlanLaw
plan_law = record { cut = cut; plan = is_plan; small = λ shard ps rs low rising s. small shard ps rs low rising; few = few }
