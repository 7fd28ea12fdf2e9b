-- The pieces of ranges tile them, and where the walk along the keys stands.
use Rattle.std.proofs.Common.{◌≡◌, ℕ, ◌+◌, ◌<◌, Bool, true, false, not, ◌&&◌, ◌||◌, List, [], ◌∷◌, ◌++◌, length, map, get_or, take, drop, refl, sym, ap, ◌∙◌, subst, append_assoc}
use Rattle.std.proofs.lemmas.Bool.{cond-true, cond-false}
use Rattle.fb_bytes.specs.Bytes.{Bytes, is_below}
use Rattle.fb_bytes.specs.declared.KeyRange.{KeyRange}
use Rattle.fb_bytes.specs.Keys.{holds, in_ranges, BeginPast, AreSeparate}
use Rattle.fb_bytes.specs.declared.Pair.{Pair}
use Rattle.fb_bytes.specs.Pairs.{KeyPast, AreRising}
use Rattle.fb_bytes.proofs.Order.{below_trans, below_up, below_down, below_itself, below_not_back, not_both}
use Rattle.snapshot_plan.specs.Pieces.{BeginFrom, ArePieces}
use Rattle.snapshot_plan.specs.Plans.{key_of, keys_in, is_cut, cuts, cut_before, pieces_in, pieces, IsPlan}
use Rattle.snapshot_plan.specs.inner.Splits.{until_key, from_key}
use Rattle.snapshot_plan.proofs.Walking.{by, proper, holds_parts, holds_from, not_before, not_past}
use Rattle.snapshot_plan.proofs.Walks.{range_at}

-- ---- keys that rise inside a range

-- the keys rise, past the begin and below the end
abbrev pub AreInside : Bytes → Bytes → List Bytes → Type 0
AreInside begin end [] = is_below begin end ≡ true
AreInside begin end (key ∷ keys) = (is_below begin key ≡ true) × AreInside key end keys

pub inside_ends : (b e : Bytes) (ks : List Bytes) → AreInside b e ks → is_below b e ≡ true
inside_ends b e [] i = i
inside_ends b e (k ∷ ks) i = below_trans b k e i.0 (inside_ends k e ks i.1)

-- a is no more than b
pub inside_from : (a b e : Bytes) (ks : List Bytes) → is_below b a ≡ false → AreInside b e ks → AreInside a e ks
inside_from a b e [] h i = below_down a b e h i
inside_from a b e (k ∷ ks) h i = (below_down a b k h i.0, i.1)

inside_cuts : (shard place : ℕ) (b e : Bytes) (ks : List Bytes) → AreInside b e ks → AreInside b e (cuts shard place ks)
inside_cuts shard place b e [] i = i
inside_cuts shard place b e (k ∷ ks) i = by (is_cut shard place)
    (λ t. subst (λ xs. AreInside b e xs) (sym (cond-true (is_cut shard place) (k ∷ cuts shard (place + 1) ks) (cuts shard (place + 1) ks) t)) (i.0, inside_cuts shard (place + 1) k e ks i.1))
    (λ f. subst (λ xs. AreInside b e xs) (sym (cond-false (is_cut shard place) (k ∷ cuts shard (place + 1) ks) (cuts shard (place + 1) ks) f)) (inside_from b k e (cuts shard (place + 1) ks) (below_not_back b k i.0) (inside_cuts shard (place + 1) k e ks i.1)))

past_on : (a b : Bytes) (ps : List Pair) → is_below a b ≡ true → KeyPast b ps → KeyPast a ps
past_on a b [] h p = tt
past_on a b (q ∷ ps) h p = below_trans a b q.key h p

pub inside_keys : (b : Bytes) (r : KeyRange) (ps : List Pair) → is_below b r.end ≡ true → KeyPast b ps → AreRising ps → AreInside b r.end (keys_in r ps)
inside_keys b r [] h past rising = h
inside_keys b r (p ∷ ps) h past rising = by (holds r p.key)
    (λ t. subst (λ xs. AreInside b r.end xs) (sym (cond-true (holds r p.key) (p.key ∷ keys_in r ps) (keys_in r ps) t)) (past, inside_keys p.key r ps (holds_parts r p.key t).1 rising.0 rising.1))
    (λ f. subst (λ xs. AreInside b r.end xs) (sym (cond-false (holds r p.key) (p.key ∷ keys_in r ps) (keys_in r ps) f)) (inside_keys b r ps h (past_on b p.key ps past rising.0) rising.1))

-- the first key isn't below the begin, and the others rise from it on
abbrev pub Starts : KeyRange → List Bytes → Type 0
Starts r [] = Unit {0}
Starts r (k ∷ ks) = (is_below k r.begin ≡ false) × AreInside k r.end ks

pub starts : (r : KeyRange) (ps : List Pair) → AreRising ps → Starts r (keys_in r ps)
starts r [] rising = tt
starts r (p ∷ ps) rising = by (holds r p.key)
    (λ t.
    let q = holds_parts r p.key t in
    subst (λ xs. Starts r xs) (sym (cond-true (holds r p.key) (p.key ∷ keys_in r ps) (keys_in r ps) t)) (q.0, inside_keys p.key r ps q.1 rising.0 rising.1))
    (λ f. subst (λ xs. Starts r xs) (sym (cond-false (holds r p.key) (p.key ∷ keys_in r ps) (keys_in r ps) f)) (starts r ps rising.1))

-- no cut is before the first key of a range, so all are past its begin
inside_range : (shard : ℕ) (r : KeyRange) (ps : List Pair) → is_below r.begin r.end ≡ true → AreRising ps → AreInside r.begin r.end (cuts shard 0 (keys_in r ps))
inside_range shard r ps h rising = go (keys_in r ps) (starts r ps rising)
  where
    go : (ks : List Bytes) → Starts r ks → AreInside r.begin r.end (cuts shard 0 ks)
    go [] s = h
    go (k ∷ ks) s = inside_from r.begin k r.end (cuts shard 1 ks) s.0 (inside_cuts shard 1 k r.end ks s.1)

-- ---- a range that is cut holds the same keys, in pieces

split_bool : (b k e : Bool) → (k ≡ true → e ≡ true) → (k ≡ false → b ≡ false) → ((not b && k) || (not k && e)) ≡ (not b && e)
split_bool true true e h g = refl
split_bool true false e h g = not_both refl (g refl)
split_bool false true true h g = refl
split_bool false true false h g = not_both (h refl) refl
split_bool false false e h g = refl

pub two_parts : (b k e key : Bytes) → is_below k b ≡ false → is_below e k ≡ false → (holds (record { begin = b; end = k }) key || holds (record { begin = k; end = e }) key) ≡ holds (record { begin = b; end = e }) key
two_parts b k e key h g = split_bool (is_below key b) (is_below key k) (is_below key e)
    (λ t. below_up key e k t g)
    (λ f. by (is_below key b) (λ t. not_both (below_up key k b t h) f) (λ n. n))

or_false : (b : Bool) → (b || false) ≡ b
or_false true = refl
or_false false = refl

or_assoc : (a b c : Bool) → (a || (b || c)) ≡ ((a || b) || c)
or_assoc true b c = refl
or_assoc false b c = refl

cut_same : (ks : List Bytes) (r : KeyRange) (key : Bytes) → AreInside r.begin r.end ks → in_ranges (cut_before ks r) key ≡ holds r key
cut_same [] r key i = or_false (holds r key)
cut_same (k ∷ ks) r key i =
    ap (λ b. holds (record { begin = r.begin; end = k }) key || b) (cut_same ks (record { begin = k; end = r.end }) key i.1)
    ∙ two_parts r.begin k r.end key (below_not_back r.begin k i.0) (below_not_back k r.end (inside_ends k r.end ks i.1))

in_append : (xs ys : List KeyRange) (key : Bytes) → in_ranges (xs ++ ys) key ≡ (in_ranges xs key || in_ranges ys key)
in_append [] ys key = refl
in_append (x ∷ xs) ys key = ap (λ b. holds x key || b) (in_append xs ys key) ∙ or_assoc (holds x key) (in_ranges xs key) (in_ranges ys key)

-- the first piece begins where the range does
cut_begins : (ks : List Bytes) (r : KeyRange) (rest : List KeyRange) (end : Bytes) → is_below r.begin end ≡ false → BeginFrom end (cut_before ks r ++ rest)
cut_begins [] r rest end h = h
cut_begins (k ∷ ks) r rest end h = h

cut_pieces : (ks : List Bytes) (r : KeyRange) (rest : List KeyRange) → AreInside r.begin r.end ks → BeginFrom r.end rest → ArePieces rest → ArePieces (cut_before ks r ++ rest)
cut_pieces [] r rest i b a = (ap not i, b, a)
cut_pieces (k ∷ ks) r rest i b a =
    let behind : KeyRange = record { begin = k; end = r.end } in
    (ap not i.0, cut_begins ks behind rest k (below_itself k), cut_pieces ks behind rest i.1 b a)

-- ---- all ranges

plan_begins : (shard : ℕ) (ps : List Pair) (end : Bytes) (rs : List KeyRange) → BeginPast end rs → BeginFrom end (pieces shard ps rs)
plan_begins shard ps end [] h = tt
plan_begins shard ps end (r ∷ rs) h = cut_begins (cuts shard 0 (keys_in r ps)) r (pieces shard ps rs) end (below_not_back end r.begin h)

plan_pieces : (shard : ℕ) (ps : List Pair) (rs : List KeyRange) → AreRising ps → AreSeparate rs → ArePieces (pieces shard ps rs)
plan_pieces shard ps [] rising s = tt
plan_pieces shard ps (r ∷ rs) rising s = cut_pieces (cuts shard 0 (keys_in r ps)) r (pieces shard ps rs) (inside_range shard r ps (proper r s.0) rising) (plan_begins shard ps r.end rs s.1) (plan_pieces shard ps rs rising s.2)

plan_same : (shard : ℕ) (ps : List Pair) (rs : List KeyRange) (key : Bytes) → AreRising ps → AreSeparate rs → in_ranges (pieces shard ps rs) key ≡ in_ranges rs key
plan_same shard ps [] key rising s = refl
plan_same shard ps (r ∷ rs) key rising s =
    in_append (pieces_in shard ps r) (pieces shard ps rs) key
    ∙ ap (λ b. b || in_ranges (pieces shard ps rs) key) (cut_same (cuts shard 0 (keys_in r ps)) r key (inside_range shard r ps (proper r s.0) rising))
    ∙ ap (λ b. holds r key || b) (plan_same shard ps rs key rising s.2)

pub is_plan : (shard : ℕ) (ps : List Pair) (rs : List KeyRange) → AreRising ps → AreSeparate rs → IsPlan rs (pieces shard ps rs)
is_plan shard ps rs rising s = record { pieces = plan_pieces shard ps rs rising s; same = λ key. plan_same shard ps rs key rising s }

-- ---- the keys of a range are a run of all keys

-- behind a key that is past the range there is none of it
pub none_past : (r : KeyRange) (p : Pair) (ps : List Pair) → is_below p.key r.end ≡ false → AreRising (p ∷ ps) → keys_in r (p ∷ ps) ≡ []
none_past r p [] h rising = cond-false (holds r p.key) (p.key ∷ []) [] (not_past r p.key h)
none_past r p (q ∷ ps) h rising =
    cond-false (holds r p.key) (p.key ∷ keys_in r (q ∷ ps)) (keys_in r (q ∷ ps)) (not_past r p.key h)
    ∙ none_past r q ps (by (is_below q.key r.end) (λ t. not_both (below_trans p.key q.key r.end rising.0 t) h) (λ f. f)) rising.1

-- keys below the begin aren't in the range
keys_from : (r : KeyRange) (key : Bytes) (ps : List Pair) → is_below r.begin key ≡ false → keys_in r (from_key key ps) ≡ keys_in r ps
keys_from r key [] h = refl
keys_from r key (p ∷ ps) h = by (is_below p.key key)
    (λ t.
    ap (keys_in r) (cond-true (is_below p.key key) (from_key key ps) (p ∷ ps) t)
    ∙ keys_from r key ps h
    ∙ sym (cond-false (holds r p.key) (p.key ∷ keys_in r ps) (keys_in r ps) (not_before r p.key (below_up p.key r.begin key t h))))
    (λ f. ap (keys_in r) (cond-false (is_below p.key key) (from_key key ps) (p ∷ ps) f))

-- the first key, if there is one, isn't below this one
abbrev pub KeyFrom : Bytes → List Pair → Type 0
KeyFrom key [] = Unit {0}
KeyFrom key (pair ∷ pairs) = is_below pair.key key ≡ false

from_begins : (key : Bytes) (ps : List Pair) → KeyFrom key (from_key key ps)
from_begins key [] = tt
from_begins key (p ∷ ps) = by (is_below p.key key)
    (λ t. subst (λ xs. KeyFrom key xs) (sym (cond-true (is_below p.key key) (from_key key ps) (p ∷ ps) t)) (from_begins key ps))
    (λ f. subst (λ xs. KeyFrom key xs) (sym (cond-false (is_below p.key key) (from_key key ps) (p ∷ ps) f)) f)

pub from_rising : (key : Bytes) (ps : List Pair) → AreRising ps → AreRising (from_key key ps)
from_rising key [] rising = tt
from_rising key (p ∷ ps) rising = by (is_below p.key key)
    (λ t. subst (λ xs. AreRising xs) (sym (cond-true (is_below p.key key) (from_key key ps) (p ∷ ps) t)) (from_rising key ps rising.1))
    (λ f. subst (λ xs. AreRising xs) (sym (cond-false (is_below p.key key) (from_key key ps) (p ∷ ps) f)) rising)

keys_until : (r : KeyRange) (ps : List Pair) → KeyFrom r.begin ps → AreRising ps → keys_in r ps ≡ map key_of (until_key r.end ps)
keys_until r [] from rising = refl
keys_until r (p ∷ ps) from rising = by (is_below p.key r.end)
    (λ t.
    cond-true (holds r p.key) (p.key ∷ keys_in r ps) (keys_in r ps) (holds_from r p.key from t)
    ∙ ap (λ xs. p.key ∷ xs) (keys_until r ps (next ps rising.0) rising.1)
    ∙ sym (ap (map key_of) (cond-true (is_below p.key r.end) (p ∷ until_key r.end ps) [] t)))
    (λ f. none_past r p ps f rising ∙ sym (ap (map key_of) (cond-false (is_below p.key r.end) (p ∷ until_key r.end ps) [] f)))
  where
    next : (qs : List Pair) → KeyPast p.key qs → KeyFrom r.begin qs
    next [] past = tt
    next (q ∷ qs) past = by (is_below q.key r.begin) (λ t. not_both (below_trans p.key q.key r.begin past t) from) (λ g. g)

pub own_keys : (r : KeyRange) (ps : List Pair) → AreRising ps → map key_of (until_key r.end (from_key r.begin ps)) ≡ keys_in r ps
own_keys r ps rising =
    sym (keys_until r (from_key r.begin ps) (from_begins r.begin ps) (from_rising r.begin ps rising))
    ∙ keys_from r r.begin ps (below_itself r.begin)

-- what is below a key at which no range has begun doesn't matter
pub plan_from : (shard : ℕ) (key : Bytes) (ps : List Pair) (rs : List KeyRange) → BeginPast key rs → AreSeparate rs → pieces shard (from_key key ps) rs ≡ pieces shard ps rs
plan_from shard key ps [] past s = refl
plan_from shard key ps (r ∷ rs) past s =
    ap (λ xs. cut_before (cuts shard 0 xs) r ++ pieces shard (from_key key ps) rs) (keys_from r key ps (below_not_back key r.begin past))
    ∙ ap (λ xs. pieces_in shard ps r ++ xs) (plan_from shard key ps rs (later rs s.1) s.2)
  where
    on : is_below key r.end ≡ true
    on = below_trans key r.begin r.end past (proper r s.0)

    later : (qs : List KeyRange) → BeginPast r.end qs → BeginPast key qs
    later [] b = tt
    later (q ∷ qs) b = below_trans key r.end q.begin on b

-- ---- pairs that are split at a key

append_nil : {X : Type 0} (xs : List X) → xs ++ [] ≡ xs
append_nil [] = refl
append_nil (x ∷ xs) = ap (λ ys. x ∷ ys) (append_nil xs)

-- So far: those in front are below the key.
pub record Split (key : Bytes) (pairs : List Pair) (place : ℕ) : Type 0 where
  pub front : take place pairs ++ until_key key (drop place pairs) ≡ until_key key pairs
  pub rest : from_key key (drop place pairs) ≡ from_key key pairs

-- ---- from range to range

-- So far: the pieces that are done, and those of the ranges that are left, are all pieces.
pub record Planned (shard : ℕ) (pairs : List Pair) (ranges : List KeyRange) (at : ℕ) (rest : List Pair) (done : List KeyRange) : Type 0 where
  pub separate : AreSeparate (drop at ranges)
  pub rising : AreRising rest
  pub same : done ++ pieces shard rest (drop at ranges) ≡ pieces shard pairs ranges

pub planned_none : (shard : ℕ) (pairs : List Pair) (ranges : List KeyRange) → AreRising pairs → AreSeparate ranges → Planned shard pairs ranges 0 pairs []
planned_none shard pairs ranges rising s = record { separate = s; rising = rising; same = refl }

pub planned_more : (shard : ℕ) (pairs : List Pair) (ranges : List KeyRange) (at : ℕ) (rest : List Pair) (done : List KeyRange) (range : KeyRange) → Planned shard pairs ranges at rest done → drop at ranges ≡ range ∷ drop (at + 1) ranges → Planned shard pairs ranges (at + 1) (from_key range.end (from_key range.begin rest)) (done ++ cut_before (cuts shard 0 (map key_of (until_key range.end (from_key range.begin rest)))) range)
planned_more shard pairs ranges at rest done r l e =
    let s : AreSeparate (r ∷ drop (at + 1) ranges) = subst AreSeparate e l.separate in
    let own = from_rising r.begin rest l.rising in
    record {
      separate = s.2;
      rising = from_rising r.end (from_key r.begin rest) own;
      same =
          append_assoc done (cut_before (cuts shard 0 (map key_of (until_key r.end (from_key r.begin rest)))) r) (pieces shard (from_key r.end (from_key r.begin rest)) (drop (at + 1) ranges))
          ∙ ap (λ xs. done ++ (cut_before (cuts shard 0 xs) r ++ pieces shard (from_key r.end (from_key r.begin rest)) (drop (at + 1) ranges))) (own_keys r rest l.rising)
          ∙ ap (λ xs. done ++ (pieces_in shard rest r ++ xs))
          (plan_from shard r.end (from_key r.begin rest) (drop (at + 1) ranges) s.1 s.2
          ∙ plan_from shard r.begin rest (drop (at + 1) ranges) (later (drop (at + 1) ranges) (proper r s.0) s.1) s.2)
          ∙ ap (λ rs. done ++ pieces shard rest rs) (sym e)
          ∙ l.same;
    }
  where
    later : (qs : List KeyRange) → is_below r.begin r.end ≡ true → BeginPast r.end qs → BeginPast r.begin qs
    later [] h b = tt
    later (q ∷ qs) h b = below_trans r.begin r.end q.begin h b

-- one turn of the walk
pub planned_step : (shard : ℕ) (pairs : List Pair) (ranges : List KeyRange) (at : ℕ) (rest : List Pair) (done : List KeyRange) (range : KeyRange) (begin end : Bytes) (from own behind : List Pair) (all : List KeyRange) → Planned shard pairs ranges at rest done → at < length ranges → range ≡ get_or ranges at range → begin ≡ range.begin → end ≡ range.end → from ≡ from_key begin rest → own ≡ until_key end from → behind ≡ from_key end from → all ≡ done ++ cut_before (cuts shard 0 (map key_of own)) range → Planned shard pairs ranges (at + 1) behind all
planned_step shard pairs ranges at rest done range begin end from own behind all l lt is b e f o h a =
    let from_is : from ≡ from_key range.begin rest = f ∙ ap (λ k. from_key k rest) b in
    let own_is : own ≡ until_key range.end (from_key range.begin rest) = o ∙ ap (λ k. until_key k from) e ∙ ap (until_key range.end) from_is in
    let behind_is : behind ≡ from_key range.end (from_key range.begin rest) = h ∙ ap (λ k. from_key k from) e ∙ ap (from_key range.end) from_is in
    let all_is : all ≡ done ++ cut_before (cuts shard 0 (map key_of (until_key range.end (from_key range.begin rest)))) range = a ∙ ap (λ xs. done ++ cut_before (cuts shard 0 (map key_of xs)) range) own_is in
    subst (λ ys. Planned shard pairs ranges (at + 1) behind ys) (sym all_is)
    (subst (λ xs. Planned shard pairs ranges (at + 1) xs (done ++ cut_before (cuts shard 0 (map key_of (until_key range.end (from_key range.begin rest)))) range)) (sym behind_is)
    (planned_more shard pairs ranges at rest done range l (range_at ranges at range lt is)))

pub planned_all : (shard : ℕ) (pairs : List Pair) (ranges : List KeyRange) (at : ℕ) (rest : List Pair) (done : List KeyRange) → Planned shard pairs ranges at rest done → drop at ranges ≡ [] → done ≡ pieces shard pairs ranges
planned_all shard pairs ranges at rest done l e = sym (append_nil done) ∙ ap (λ rs. done ++ pieces shard rest rs) (sym e) ∙ l.same
