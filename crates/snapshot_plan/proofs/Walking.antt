-- The least keys outside pieces and inside them.
use Rattle.std.proofs.Common.{◌≡◌, Bool, true, false, not, ◌&&◌, ◌||◌, cond, List, [], ◌∷◌, Option, Some, None, refl, sym, ap, ◌∙◌, subst}
use Rattle.std.proofs.lemmas.Bool.{cond_both, and_parts, and_from, not_from_false}
use Rattle.fb_bytes.specs.Bytes.{Bytes, is_below}
use Rattle.fb_bytes.specs.declared.KeyRange.{KeyRange}
use Rattle.fb_bytes.specs.Keys.{holds, in_ranges, is_backwards, BeginPast, AreSeparate}
use Rattle.fb_bytes.proofs.Order.{below_trans, below_up, below_down, below_itself, below_not_back, neither_below, not_both}
use Rattle.snapshot_plan.specs.declared.fault.MapFault.{MapFault}
use Rattle.snapshot_plan.specs.declared.fault.MapFault.TheVariants.{OutsideRanges, Overlap}
use Rattle.snapshot_plan.specs.Noted.{Noted, Map, pieces_of, with_noted, unless_inside, gap, fault_of}
use Rattle.snapshot_plan.specs.Pieces.{BeginFrom, ArePieces, covered_from, outside, overlaps, later, overlap, or_else, gap_in, if_below, IsFirst, IsFirstOrNone}
use Rattle.snapshot_plan.specs.Laws.{is_out, IsMap, IsInside, PieceLaw, LeastKeyLaw}

-- ---- tests of keys

pub proper : (r : KeyRange) → is_backwards r ≡ false → is_below r.begin r.end ≡ true
proper r h = go (is_below r.begin r.end) h
  where
    go : (b : Bool) → not b ≡ false → b ≡ true
    go true e = refl
    go false e = not_both refl e

-- a is no more than b, and b no more than c
pub at_most_trans : (a b c : Bytes) → is_below b a ≡ false → is_below c b ≡ false → is_below c a ≡ false
at_most_trans a b c h g = go (is_below c a) refl
  where
    go : (t : Bool) → is_below c a ≡ t → is_below c a ≡ false
    go true e = not_both (below_up c b a e h) g
    go false e = e

pub holds_parts : (r : KeyRange) (key : Bytes) → holds r key ≡ true → (is_below key r.begin ≡ false) × (is_below key r.end ≡ true)
holds_parts r key h = let p = and_parts (not (is_below key r.begin)) (is_below key r.end) h in (go (is_below key r.begin) p.0, p.1)
  where
    go : (b : Bool) → not b ≡ true → b ≡ false
    go true e = not_both e refl
    go false e = refl

pub holds_from : (r : KeyRange) (key : Bytes) → is_below key r.begin ≡ false → is_below key r.end ≡ true → holds r key ≡ true
holds_from r key h g = and_from (not (is_below key r.begin)) (is_below key r.end) (not_from_false (is_below key r.begin) h) g

pub not_before : (r : KeyRange) (key : Bytes) → is_below key r.begin ≡ true → holds r key ≡ false
not_before r key h = rw h refl

pub not_past : (r : KeyRange) (key : Bytes) → is_below key r.end ≡ false → holds r key ≡ false
not_past r key h = go (is_below key r.begin)
  where
    go : (b : Bool) → (not b && is_below key r.end) ≡ false
    go true = refl
    go false = h

or_none : (a b : Bool) → a ≡ false → b ≡ false → (a || b) ≡ false
or_none true b h g = not_both refl h
or_none false b h g = g

or_left : (a b : Bool) → a ≡ true → (a || b) ≡ true
or_left true b h = refl
or_left false b h = not_both h refl

or_right : (a b : Bool) → b ≡ true → (a || b) ≡ true
or_right true b h = refl
or_right false b h = h

none_of : (a b : Bool) → (a || b) ≡ false → (a ≡ false) × (b ≡ false)
none_of true b h = not_both refl h
none_of false b h = (refl, h)

pub by : {P : Type 0} (b : Bool) → (b ≡ true → P) → (b ≡ false → P) → P
by true t f = t refl
by false t f = f refl

-- ---- pieces in order

-- a key before the first piece is in none
pub before_all : (key : Bytes) (p : KeyRange) (ps : List KeyRange) → ArePieces (p ∷ ps) → is_below key p.begin ≡ true → in_ranges (p ∷ ps) key ≡ false
before_all key p [] a h = rw (not_before p key h) refl
before_all key p (q ∷ ps) a h =
    let past = below_trans key p.begin p.end h (proper p a.0) in
    or_none (holds p key) (in_ranges (q ∷ ps) key) (not_before p key h) (before_all key q ps a.2 (below_down_to key p.end q.begin past a.1))
  where
    -- key < x and not y < x give key < y
    below_down_to : (k x y : Bytes) → is_below k x ≡ true → is_below y x ≡ false → is_below k y ≡ true
    below_down_to k x y h g = below_up k y x h g

-- and so is a key before where the pieces begin
before_from : (key end : Bytes) (ps : List KeyRange) → BeginFrom end ps → ArePieces ps → is_below key end ≡ true → in_ranges ps key ≡ false
before_from key end [] b a h = refl
before_from key end (p ∷ ps) b a h = before_all key p ps a (below_up key p.begin end h b)

pub separate_pieces : (ranges : List KeyRange) → AreSeparate ranges → ArePieces ranges
separate_pieces [] s = tt
separate_pieces (r ∷ rs) s = (s.0, first rs s.1, separate_pieces rs s.2)
  where
    first : (rs : List KeyRange) → BeginPast r.end rs → BeginFrom r.end rs
    first [] p = tt
    first (q ∷ rs) p = below_not_back r.end q.begin p

-- ---- the walk

-- what a step of the walk does
pub step_in : (p : KeyRange) (ps : List KeyRange) (key : Bytes) → holds p key ≡ true → covered_from (p ∷ ps) key ≡ covered_from ps p.end
step_in p ps key h = rw h refl

pub step_over : (p : KeyRange) (ps : List KeyRange) (key : Bytes) → holds p key ≡ false → covered_from (p ∷ ps) key ≡ covered_from ps key
step_over p ps key h = rw h refl

-- it stays at a key that no piece holds
pub walk_stays : (ps : List KeyRange) (key : Bytes) → in_ranges ps key ≡ false → covered_from ps key ≡ key
walk_stays [] key h = refl
walk_stays (p ∷ ps) key h = let n = none_of (holds p key) (in_ranges ps key) h in step_over p ps key n.0 ∙ walk_stays ps key n.1

-- it goes on
pub walk_on : (ps : List KeyRange) (key : Bytes) → is_below (covered_from ps key) key ≡ false
walk_on [] key = below_itself key
walk_on (p ∷ ps) key = by (holds p key)
    (λ h. let parts = holds_parts p key h in
    ap (λ k. is_below k key) (step_in p ps key h) ∙ at_most_trans key p.end (covered_from ps p.end) (below_not_back key p.end parts.1) (walk_on ps p.end))
    (λ h. ap (λ k. is_below k key) (step_over p ps key h) ∙ walk_on ps key)

ends_inside : (p : KeyRange) (ps : List KeyRange) (key : Bytes) → holds p key ≡ true → in_ranges ps (covered_from ps p.end) ≡ false → in_ranges (p ∷ ps) (covered_from (p ∷ ps) key) ≡ false
ends_inside p ps key h ih =
    let k = covered_from ps p.end in
    ap (in_ranges (p ∷ ps)) (step_in p ps key h) ∙ or_none (holds p k) (in_ranges ps k) (not_past p k (walk_on ps p.end)) ih

ends_over : (p : KeyRange) (ps : List KeyRange) (key : Bytes) → ArePieces (p ∷ ps) → holds p key ≡ false → in_ranges ps (covered_from ps key) ≡ false → in_ranges (p ∷ ps) (covered_from (p ∷ ps) key) ≡ false
ends_over p ps key a h ih = by (is_below key p.begin)
    (λ b.
    let none = before_all key p ps a b in
    ap (in_ranges (p ∷ ps)) (walk_stays (p ∷ ps) key none) ∙ none)
    (λ b. by (is_below key p.end)
    (λ e. not_both (holds_from p key b e) h)
    (λ e.
    let k = covered_from ps key in
    ap (in_ranges (p ∷ ps)) (step_over p ps key h) ∙ or_none (holds p k) (in_ranges ps k) (not_past p k (at_most_trans p.end key k e (walk_on ps key))) ih))

-- to a key that no piece holds
walk_ends : (ps : List KeyRange) (key : Bytes) → ArePieces ps → in_ranges ps (covered_from ps key) ≡ false
walk_ends [] key a = refl
walk_ends (p ∷ ps) key a = by (holds p key) (λ h. ends_inside p ps key h (walk_ends ps p.end a.2)) (λ h. ends_over p ps key a h (walk_ends ps key a.2))

-- and passes only keys that some piece holds
walk_covers : (ps : List KeyRange) (key other : Bytes) → is_below other key ≡ false → is_below other (covered_from ps key) ≡ true → in_ranges ps other ≡ true
walk_covers [] key other h g = not_both g h
walk_covers (p ∷ ps) key other h g = by (holds p key)
    (λ t.
    let parts = holds_parts p key t in
    by (is_below other p.end)
    (λ e. or_left (holds p other) (in_ranges ps other) (holds_from p other (at_most_trans p.begin key other parts.0 h) e))
    (λ e. or_right (holds p other) (in_ranges ps other) (walk_covers ps p.end other e (sym (ap (is_below other) (step_in p ps key t)) ∙ g))))
    (λ t. or_right (holds p other) (in_ranges ps other) (walk_covers ps key other h (sym (ap (is_below other) (step_over p ps key t)) ∙ g)))

-- ---- the least key outside

pub not_true : (b : Bool) → b ≡ true → not b ≡ false
not_true b h = ap not h

pub not_false : (b : Bool) → b ≡ false → not b ≡ true
not_false b h = ap not h

from_not : (b : Bool) → not b ≡ true → b ≡ false
from_not true h = not_both h refl
from_not false h = refl

outside_is : (ps : List KeyRange) (range : KeyRange) → ArePieces ps → IsFirstOrNone (holds range) (is_out ps) (outside ps range)
outside_is ps range a = go (is_below k range.end) refl
  where
    k : Bytes
    k = covered_from ps range.begin

    go : (b : Bool) → is_below k range.end ≡ b → IsFirstOrNone (holds range) (is_out ps) (cond b (Some k) None)
    go true e = record {
      inside = holds_from range k (walk_on ps range.begin) e;
      passes = not_false (in_ranges ps k) (walk_ends ps range.begin a);
      least = λ other h t. by (is_below other k)
          (λ b. let parts = holds_parts range other h in not_both (walk_covers ps range.begin other parts.0 b) (from_not (in_ranges ps other) t))
          (λ b. b);
    }
    go false e = λ key h.
        let parts = holds_parts range key h in
        not_true (in_ranges ps key) (walk_covers ps range.begin key parts.0 (below_up key k range.end parts.1 e))

-- ---- the least key inside

later_from : (a b key : Bytes) → is_below key a ≡ false → is_below key b ≡ false → is_below key (later a b) ≡ false
later_from a b key h g = cond_both (is_below a b) b a (λ k. is_below key k ≡ false) (λ t. g) (λ f. h)

pub later_first : (a b : Bytes) → is_below (later a b) a ≡ false
later_first a b = cond_both (is_below a b) b a (λ k. is_below k a ≡ false) (λ t. below_not_back a b t) (λ f. below_itself a)

later_second : (a b : Bytes) → is_below (later a b) b ≡ false
later_second a b = cond_both (is_below a b) b a (λ k. is_below k b ≡ false) (λ t. below_itself b) (λ f. f)

later_below : (a b end : Bytes) → is_below a end ≡ true → is_below b end ≡ true → is_below (later a b) end ≡ true
later_below a b end h g = cond_both (is_below a b) b a (λ k. is_below k end ≡ true) (λ t. g) (λ f. h)

-- two ranges with a common key overlap
common_overlaps : (p r : KeyRange) (key : Bytes) → holds p key ≡ true → holds r key ≡ true → overlaps p r ≡ true
common_overlaps p r key h g =
    let a = holds_parts p key h in
    let b = holds_parts r key g in
    and_from (is_below p.begin r.end) (is_below r.begin p.end) (below_down p.begin key r.end a.0 b.1) (below_down r.begin key p.end b.0 a.1)

overlap_is : (ps : List KeyRange) (range : KeyRange) → ArePieces ps → IsFirstOrNone (holds range) (in_ranges ps) (overlap ps range)
overlap_is [] range a = λ key h. refl
overlap_is (p ∷ ps) range a = go (overlaps p range) refl (overlap_is ps range a.2)
  where
    k : Bytes
    k = later p.begin range.begin

    rest : overlaps p range ≡ false → (found : Option Bytes) → IsFirstOrNone (holds range) (in_ranges ps) found → IsFirstOrNone (holds range) (in_ranges (p ∷ ps)) found
    rest o None none = λ key h. or_none (holds p key) (in_ranges ps key) (by (holds p key) (λ t. not_both (common_overlaps p range key t h) o) (λ f. f)) (none key h)
    rest o (Some key) first = record {
      inside = first.inside;
      passes = or_right (holds p key) (in_ranges ps key) first.passes;
      least = λ other h t. by (holds p other)
          (λ q. not_both (common_overlaps p range other q h) o)
          (λ q. first.least other h (sym (ap (λ b. b || in_ranges ps other) q) ∙ t));
    }

    here : (is_below p.begin range.end ≡ true) × (is_below range.begin p.end ≡ true) → (b : Bool) → is_below k range.end ≡ b → IsFirstOrNone (holds range) (in_ranges (p ∷ ps)) (cond b (Some k) None)
    here parts true e = record {
      inside = holds_from range k (later_second p.begin range.begin) e;
      passes = or_left (holds p k) (in_ranges ps k) (holds_from p k (later_first p.begin range.begin) (later_below p.begin range.begin p.end (proper p a.0) parts.1));
      least = λ other h t.
          let from = (holds_parts range other h).0 in
          by (is_below other p.begin)
          (λ b. not_both t (before_all other p ps a b))
          (λ b. later_from p.begin range.begin other b from);
    }
    -- the range has no key
    here parts false e = λ key h.
        let held = holds_parts range key h in
        not_both (later_below p.begin range.begin range.end parts.0 (below_down range.begin key range.end held.0 held.1)) e

    go : (b : Bool) → overlaps p range ≡ b → IsFirstOrNone (holds range) (in_ranges ps) (overlap ps range) → IsFirstOrNone (holds range) (in_ranges (p ∷ ps)) (cond b (if_below k range.end) (overlap ps range))
    go true o ih = here (and_parts (is_below p.begin range.end) (is_below range.begin p.end) o) (is_below k range.end) refl
    go false o ih = rest o (overlap ps range) ih

-- ---- the least key of all ranges outside

first_in_more : (r : KeyRange) (rs ps : List KeyRange) (found : Option Bytes) → ArePieces (r ∷ rs) → IsFirstOrNone (holds r) (is_out ps) found
    → (other : Option Bytes) → IsFirstOrNone (in_ranges rs) (is_out ps) other → IsFirstOrNone (in_ranges (r ∷ rs)) (is_out ps) (or_else found other)
first_in_more r rs ps (Some key) a first other more = record {
  inside = or_left (holds r key) (in_ranges rs key) first.inside;
  passes = first.passes;
  least = λ o h t. by (holds r o)
      (λ q. first.least o q t)
      (λ q.
      let in_rest : in_ranges rs o ≡ true = sym (ap (λ b. b || in_ranges rs o) q) ∙ h in
      let end = (holds_parts r key first.inside).1 in
      by (is_below o key)
      (λ b. not_both in_rest (before_from o r.end rs a.1 a.2 (below_trans o key r.end b end)))
      (λ b. b));
}
first_in_more r rs ps None a none None more = λ key h. by (holds r key) (λ q. none key q) (λ q. more key (sym (ap (λ b. b || in_ranges rs key) q) ∙ h))
first_in_more r rs ps None a none (Some key) more = record {
  inside = or_right (holds r key) (in_ranges rs key) more.inside;
  passes = more.passes;
  least = λ o h t. by (holds r o)
      (λ q. not_both t (none o q))
      (λ q. more.least o (sym (ap (λ b. b || in_ranges rs o) q) ∙ h) t);
}

gap_is : (ranges ps : List KeyRange) → AreSeparate ranges → ArePieces ps → IsFirstOrNone (in_ranges ranges) (is_out ps) (gap_in ranges ps)
gap_is [] ps s a = λ key h. not_both h refl
gap_is (r ∷ rs) ps s a = first_in_more r rs ps (outside ps r) (separate_pieces (r ∷ rs) s) (outside_is ps r a) (gap_in rs ps) (gap_is rs ps s.2 a)

-- ---- a piece more

or_turn : (a b c : Bool) → (a || (b || c)) ≡ (b || (a || c))
or_turn true true c = refl
or_turn true false c = refl
or_turn false true c = refl
or_turn false false c = refl

abbrev begins_before : Noted → Noted → Bool
begins_before one n = is_below n.piece.begin one.piece.begin

more_is : (one : Noted) (ns : List Noted) (key : Bytes) → in_ranges (pieces_of (with_noted one ns)) key ≡ (holds one.piece key || in_ranges (pieces_of ns) key)
more_is one [] key = refl
more_is one (n ∷ ns) key = go (begins_before one n) (more_is one ns key)
  where
    go : (b : Bool) → in_ranges (pieces_of (with_noted one ns)) key ≡ (holds one.piece key || in_ranges (pieces_of ns) key)
        → in_ranges (pieces_of (cond b (n ∷ with_noted one ns) (one ∷ n ∷ ns))) key ≡ (holds one.piece key || in_ranges (pieces_of (n ∷ ns)) key)
    go true ih = ap (λ b. holds n.piece key || b) ih ∙ or_turn (holds n.piece key) (holds one.piece key) (in_ranges (pieces_of ns) key)
    go false ih = refl

begin_held : (r : KeyRange) → is_backwards r ≡ false → holds r r.begin ≡ true
begin_held r h = holds_from r r.begin (below_itself r.begin) (proper r h)

-- the pieces behind one that begins before the new one still begin behind it
still_from : (end : Bytes) (one : Noted) (ns : List Noted) → is_below one.piece.begin end ≡ false → BeginFrom end (pieces_of ns) → BeginFrom end (pieces_of (with_noted one ns))
still_from end one [] h b = h
still_from end one (n ∷ ns) h b = cond_both (begins_before one n) (n ∷ with_noted one ns) (one ∷ n ∷ ns) (λ xs. BeginFrom end (pieces_of xs)) (λ t. b) (λ f. h)

abbrev Apart : Noted → List Noted → Type 0
Apart one ns = (key : Bytes) → holds one.piece key ≡ true → in_ranges (pieces_of ns) key ≡ false

stays_behind : (one n : Noted) (ns : List Noted) → ArePieces (pieces_of (n ∷ ns)) → is_backwards one.piece ≡ false → Apart one (n ∷ ns) → begins_before one n ≡ true
    → ArePieces (pieces_of (with_noted one ns)) → ArePieces (pieces_of (n ∷ with_noted one ns))
stays_behind one n ns a h apart t ih =
    let out_of : holds n.piece one.piece.begin ≡ false = (none_of (holds n.piece one.piece.begin) (in_ranges (pieces_of ns) one.piece.begin) (apart one.piece.begin (begin_held one.piece h))).0 in
    let past : is_below one.piece.begin n.piece.end ≡ false = by (is_below one.piece.begin n.piece.end) (λ e. not_both (holds_from n.piece one.piece.begin (below_not_back n.piece.begin one.piece.begin t) e) out_of) (λ e. e) in
    (a.0, still_from n.piece.end one ns past a.1, ih)

stays_front : (one n : Noted) (ns : List Noted) → ArePieces (pieces_of (n ∷ ns)) → is_backwards one.piece ≡ false → Apart one (n ∷ ns) → begins_before one n ≡ false → ArePieces (pieces_of (one ∷ n ∷ ns))
stays_front one n ns a h apart f =
    let from : is_below n.piece.begin one.piece.end ≡ false = by (is_below n.piece.begin one.piece.end)
    (λ e. not_both (ap (λ b. b || in_ranges (pieces_of ns) n.piece.begin) (begin_held n.piece a.0)) (apart n.piece.begin (holds_from one.piece n.piece.begin f e))) (λ e. e) in
    (h, from, a)

apart_rest : (one n : Noted) (ns : List Noted) → Apart one (n ∷ ns) → Apart one ns
apart_rest one n ns apart = λ key q. (none_of (holds n.piece key) (in_ranges (pieces_of ns) key) (apart key q)).1

stay_is : (one : Noted) (ns : List Noted) → ArePieces (pieces_of ns) → is_backwards one.piece ≡ false → Apart one ns → ArePieces (pieces_of (with_noted one ns))
stay_is one [] a h apart = (h, tt, tt)
stay_is one (n ∷ ns) a h apart =
    cond_both (begins_before one n) (n ∷ with_noted one ns) (one ∷ n ∷ ns) (λ xs. ArePieces (pieces_of xs))
    (λ t. stays_behind one n ns a h apart t (stay_is one ns a.2 h (apart_rest one n ns apart)))
    (λ f. stays_front one n ns a h apart f)

pub piece_law : PieceLaw
piece_law = record {
  ranges = separate_pieces;
  outside = outside_is;
  overlap = overlap_is;
  gap = gap_is;
  more = more_is;
  stay = stay_is;
}

-- a piece that may be noted is apart from all that are
pub may_stay : (one : Noted) (ns : List Noted) → ArePieces (pieces_of ns) → is_backwards one.piece ≡ false → overlap (pieces_of ns) one.piece ≡ None → ArePieces (pieces_of (with_noted one ns))
may_stay one ns a h o = stay_is one ns a h (subst (IsFirstOrNone (holds one.piece) (in_ranges (pieces_of ns))) o (overlap_is (pieces_of ns) one.piece a))

abbrev IsNone : Option MapFault → Type 0
IsNone None = Unit {0}
IsNone (Some fault) = ⊥

pub no_outside : (out held : Option Bytes) → unless_inside out held ≡ None → out ≡ None
no_outside None held e = refl
no_outside (Some key) held e = absurd (subst IsNone (sym e) tt)

pub no_overlap : (out held : Option Bytes) → unless_inside out held ≡ None → held ≡ None
no_overlap None None e = refl
no_overlap None (Some key) e = absurd (subst IsNone (sym e) tt)
no_overlap (Some key) held e = absurd (subst IsNone (sym e) tt)

-- the same with what is seen of a map
pub noted_stay : (ranges : List KeyRange) (inside new : List Noted) (now : Map) (one : Noted) → record { ranges = ranges; noted = inside } ≡ now → ArePieces (pieces_of inside) → is_backwards one.piece ≡ false → fault_of now one.piece ≡ None → new ≡ with_noted one inside → ArePieces (pieces_of new)
noted_stay ranges inside new now one v a h f n =
    let free = no_overlap (outside ranges one.piece) (overlap (pieces_of inside) one.piece) (ap (λ (m : Map). fault_of m one.piece) v ∙ f) in
    subst (λ ns. ArePieces (pieces_of ns)) (sym n) (may_stay one inside a h free)

-- ---- the least keys alone say it

-- two least keys are the same
first_once : (has test : Bytes → Bool) (a b : Bytes) → IsFirst has test a → IsFirst has test b → a ≡ b
first_once has test a b h g = neither_below a b (g.least a h.inside h.passes) (h.least b g.inside g.passes)

first_or_none : (has test : Bytes → Bool) (o : Option Bytes) (key : Bytes) → IsFirstOrNone has test o → IsFirst has test key → o ≡ Some key
first_or_none has test None key none h = not_both h.passes (none key h.inside)
first_or_none has test (Some k) key first h = ap (λ (x : Bytes). Some x) (first_once has test k key first h)

none_or_first : (has test : Bytes → Bool) (o : Option Bytes) → IsFirstOrNone has test o → ((key : Bytes) → has key ≡ true → test key ≡ false) → o ≡ None
none_or_first has test None first h = refl
none_or_first has test (Some k) first h = not_both first.passes (h k first.inside)

from_out : (ps : List KeyRange) (key : Bytes) → is_out ps key ≡ false → in_ranges ps key ≡ true
from_out ps key h = by (in_ranges ps key) (λ e. e) (λ e. not_both (not_false (in_ranges ps key) e) h)

some_outside : (out held : Option Bytes) (key : Bytes) → unless_inside out held ≡ Some (OutsideRanges key) → out ≡ Some key
some_outside (Some k) held key e = cc
some_outside None (Some k) key e = cc
some_outside None None key e = cc

some_overlap : (out held : Option Bytes) (key : Bytes) → unless_inside out held ≡ Some (Overlap key) → (out ≡ None) × (held ≡ Some key)
some_overlap (Some k) held key e = cc
some_overlap None (Some k) key e = (refl, cc)
some_overlap None None key e = cc

out_first : (m : Map) (piece : KeyRange) → IsMap m → IsFirstOrNone (holds piece) (is_out m.ranges) (outside m.ranges piece)
out_first m piece i = outside_is m.ranges piece (separate_pieces m.ranges i.ranges)

held_first : (m : Map) (piece : KeyRange) → IsMap m → IsFirstOrNone (holds piece) (in_ranges (pieces_of m.noted)) (overlap (pieces_of m.noted) piece)
held_first m piece i = overlap_is (pieces_of m.noted) piece i.pieces

gap_first : (m : Map) → IsMap m → IsFirstOrNone (in_ranges m.ranges) (is_out (pieces_of m.noted)) (gap m)
gap_first m i = gap_is m.ranges (pieces_of m.noted) i.ranges i.pieces

no_outside_from : (m : Map) (piece : KeyRange) → IsMap m → IsInside m piece → outside m.ranges piece ≡ None
no_outside_from m piece i h = none_or_first (holds piece) (is_out m.ranges) (outside m.ranges piece) (out_first m piece i) (λ key q. not_true (in_ranges m.ranges key) (h key q))

inside_from : (m : Map) (piece : KeyRange) → IsMap m → outside m.ranges piece ≡ None → IsInside m piece
inside_from m piece i e key q = from_out m.ranges key (subst (IsFirstOrNone (holds piece) (is_out m.ranges)) e (out_first m piece i) key q)

unless : (out held a b : Option Bytes) → out ≡ a → held ≡ b → unless_inside out held ≡ unless_inside a b
unless out held a b e f = ap (λ o. unless_inside o held) e ∙ ap (unless_inside a) f

pub least_key_law : LeastKeyLaw
least_key_law = record {
  outside = λ m piece key i. (
    (λ e. subst (IsFirstOrNone (holds piece) (is_out m.ranges)) (some_outside (outside m.ranges piece) (overlap (pieces_of m.noted) piece) key e) (out_first m piece i)),
    (λ h. ap (λ o. unless_inside o (overlap (pieces_of m.noted) piece)) (first_or_none (holds piece) (is_out m.ranges) (outside m.ranges piece) key (out_first m piece i) h)),
  );
  held = λ m piece key i. (
    (λ e.
        let parts = some_overlap (outside m.ranges piece) (overlap (pieces_of m.noted) piece) key e in
        (inside_from m piece i parts.0, subst (IsFirstOrNone (holds piece) (in_ranges (pieces_of m.noted))) parts.1 (held_first m piece i))),
    (λ h. unless (outside m.ranges piece) (overlap (pieces_of m.noted) piece) None (Some key) (no_outside_from m piece i h.0) (first_or_none (holds piece) (in_ranges (pieces_of m.noted)) (overlap (pieces_of m.noted) piece) key (held_first m piece i) h.1)),
  );
  free = λ m piece i. (
    (λ e. (
      inside_from m piece i (no_outside (outside m.ranges piece) (overlap (pieces_of m.noted) piece) e),
      subst (IsFirstOrNone (holds piece) (in_ranges (pieces_of m.noted))) (no_overlap (outside m.ranges piece) (overlap (pieces_of m.noted) piece) e) (held_first m piece i),
    )),
    (λ h. unless (outside m.ranges piece) (overlap (pieces_of m.noted) piece) None None (no_outside_from m piece i h.0) (none_or_first (holds piece) (in_ranges (pieces_of m.noted)) (overlap (pieces_of m.noted) piece) (held_first m piece i) h.1)),
  );
  untiled = λ m key i. (
    (λ e. subst (IsFirstOrNone (in_ranges m.ranges) (is_out (pieces_of m.noted))) e (gap_first m i)),
    (λ h. first_or_none (in_ranges m.ranges) (is_out (pieces_of m.noted)) (gap m) key (gap_first m i) h),
  );
  tiled = λ m i. (
    (λ e key q. from_out (pieces_of m.noted) key (subst (IsFirstOrNone (in_ranges m.ranges) (is_out (pieces_of m.noted))) e (gap_first m i) key q)),
    (λ h. none_or_first (in_ranges m.ranges) (is_out (pieces_of m.noted)) (gap m) (gap_first m i) (λ key q. not_true (in_ranges (pieces_of m.noted) key) (h key q))),
  );
}
