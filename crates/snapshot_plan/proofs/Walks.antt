-- What a search by halving and a walk along the pieces find is what the definitions say.
use Rattle.std.proofs.Common.{◌≡◌, ℕ, zero, suc, ◌+◌, ◌<◌, ◌≤◌, Bool, true, false, not, cond, if◌then◌else◌, ◌&&◌, List, [], ◌∷◌, length, drop, get_or, Option, Some, None, refl, sym, ap, ◌∙◌, subst, arith, add-one, drop-cons}
use Rattle.std.specs.Prelude.{slice_get}
use Rattle.std.specs.List.{prefix_len}
use Rattle.std.proofs.lemmas.Bool.{cond-true, cond-false}
use Rattle.fb_bytes.specs.Bytes.{Bytes, is_below}
use Rattle.fb_bytes.specs.declared.KeyRange.{KeyRange}
use Rattle.fb_bytes.specs.Keys.{holds, in_ranges, is_backwards, overlaps, BeginPast, AreSeparate}
use Rattle.fb_bytes.specs.inner.Keys.{is_passed}
use Rattle.fb_bytes.proofs.Order.{below_trans, below_up, below_down, below_itself, below_not_back, not_both}
use Rattle.snapshot_plan.specs.Noted.{Noted, pieces_of}
use Rattle.snapshot_plan.specs.Pieces.{BeginFrom, ArePieces, covered_from, outside, later, overlap, if_below, or_else, gap_in}
use Rattle.snapshot_plan.specs.inner.Walks.{Reaches}
use Rattle.snapshot_plan.proofs.Walking.{by, proper, at_most_trans, not_past, step_in, step_over, walk_on, walk_stays, before_all, later_first, separate_pieces}

-- ---- a jump among ranges that are apart

-- a key up to the end of a range is in none behind it
before_rest : (key : Bytes) (r : KeyRange) (rs : List KeyRange) → is_below r.end key ≡ false → AreSeparate (r ∷ rs) → in_ranges rs key ≡ false
before_rest key r [] h s = refl
before_rest key r (q ∷ qs) h s = before_all key q qs (separate_pieces (q ∷ qs) s.2) (below_down key r.end q.begin h s.1)

abbrev pub jumped : Bytes → Option KeyRange → Bytes
jumped key None = key
jumped key (Some r) = if holds r key then r.end else key

suc_more : (n : ℕ) → 1 + n ≡ suc n
suc_more n = omega arith

passed_more : {X : Type 0} (p : X → Bool) (x : X) (xs : List X) → p x ≡ true → slice_get (x ∷ xs) (prefix_len p (x ∷ xs)) ≡ slice_get xs (prefix_len p xs)
passed_more p x xs h = ap (slice_get (x ∷ xs)) (cond-true (p x) (1 + prefix_len p xs) 0 h ∙ suc_more (prefix_len p xs))

passed_none : {X : Type 0} (p : X → Bool) (x : X) (xs : List X) → p x ≡ false → slice_get (x ∷ xs) (prefix_len p (x ∷ xs)) ≡ Some x
passed_none p x xs h = ap (slice_get (x ∷ xs)) (cond-false (p x) (1 + prefix_len p xs) 0 h)

pub jump_is : (rs : List KeyRange) (key : Bytes) → AreSeparate rs → jumped key (slice_get rs (prefix_len (is_passed key) rs)) ≡ covered_from rs key
jump_is [] key s = refl
jump_is (r ∷ rs) key s = by (is_below key r.end)
    (λ b.
    ap (jumped key) (passed_none (is_passed key) r rs (ap not b))
    ∙ by (holds r key)
    (λ h. cond-true (holds r key) r.end key h ∙ sym (step_in r rs key h ∙ walk_stays rs r.end (before_rest r.end r rs (below_itself r.end) s)))
    (λ h. cond-false (holds r key) r.end key h ∙ sym (step_over r rs key h ∙ walk_stays rs key (before_rest key r rs (below_not_back key r.end b) s))))
    (λ b. ap (jumped key) (passed_more (is_passed key) r rs (ap not b)) ∙ jump_is rs key s.2 ∙ sym (step_over r rs key (not_past r key b)))

-- ---- the first piece that isn't passed

abbrev pub held_by : KeyRange → Option Noted → Option Bytes
held_by range None = None
held_by range (Some n) = if_below (later n.piece.begin range.begin) range.end

no_both : (a b : Bool) → a ≡ false → (a && b) ≡ false
no_both true b h = not_both refl h
no_both false b h = refl

no_second : (a b : Bool) → b ≡ false → (a && b) ≡ false
no_second true b h = h
no_second false b h = refl

-- no piece that begins past the range is in it
none_behind : (end : Bytes) (ps : List KeyRange) (range : KeyRange) → BeginFrom end ps → ArePieces ps → is_below end range.end ≡ false → overlap ps range ≡ None
none_behind end [] range f a h = refl
none_behind end (p ∷ ps) range f a h =
    let out = at_most_trans range.end end p.begin h f in
    let on = at_most_trans range.end p.begin p.end out (below_not_back p.begin p.end (proper p a.0)) in
    cond-false (overlaps p range) (if_below (later p.begin range.begin) range.end) (overlap ps range) (no_both (is_below p.begin range.end) (is_below range.begin p.end) out)
    ∙ none_behind p.end ps range a.1 a.2 on

not_below : (key end : Bytes) → is_below key end ≡ false → if_below key end ≡ None
not_below key end h = cond-false (is_below key end) (Some key) None h

pub held_is : (ns : List Noted) (range : KeyRange) → ArePieces (pieces_of ns) → held_by range (slice_get ns (prefix_len (λ n. is_passed range.begin n.piece) ns)) ≡ overlap (pieces_of ns) range
held_is [] range a = refl
held_is (n ∷ ns) range a = by (is_below range.begin n.piece.end)
    (λ b.
    ap (held_by range) (passed_none (λ m. is_passed range.begin m.piece) n ns (ap not b))
    ∙ by (is_below n.piece.begin range.end)
    (λ e. sym (cond-true (overlaps n.piece range) (if_below (later n.piece.begin range.begin) range.end) (overlap (pieces_of ns) range) (rw (e, b) refl)))
    (λ e.
    not_below (later n.piece.begin range.begin) range.end (at_most_trans range.end n.piece.begin (later n.piece.begin range.begin) e (later_first n.piece.begin range.begin))
    ∙ sym (cond-false (overlaps n.piece range) (if_below (later n.piece.begin range.begin) range.end) (overlap (pieces_of ns) range) (no_both (is_below n.piece.begin range.end) (is_below range.begin n.piece.end) e)
    ∙ none_behind n.piece.end (pieces_of ns) range a.1 a.2 (at_most_trans range.end n.piece.begin n.piece.end e (below_not_back n.piece.begin n.piece.end (proper n.piece a.0))))))
    (λ b.
    ap (held_by range) (passed_more (λ m. is_passed range.begin m.piece) n ns (ap not b)) ∙ held_is ns range a.2
    ∙ sym (cond-false (overlaps n.piece range) (if_below (later n.piece.begin range.begin) range.end) (overlap (pieces_of ns) range) (no_second (is_below n.piece.begin range.end) (is_below range.begin n.piece.end) b)))

get_some : {X : Type 0} (xs : List X) (i : ℕ) (d : X) → i < length xs → slice_get xs i ≡ Some (get_or xs i d)
get_some [] i d lt = absurd (omega arith)
get_some (x ∷ xs) zero d lt = refl
get_some (x ∷ xs) (suc i) d lt = get_some xs i d (omega arith)

get_none : {X : Type 0} (xs : List X) (i : ℕ) → length xs ≤ i → slice_get xs i ≡ None
get_none [] i le = refl
get_none (x ∷ xs) zero le = absurd (omega arith)
get_none (x ∷ xs) (suc i) le = get_none xs i (omega arith)

pub jump_there : (rs : List KeyRange) (key : Bytes) (place : ℕ) (r : KeyRange) → AreSeparate rs → place ≡ prefix_len (is_passed key) rs → place < length rs → r ≡ get_or rs place r → cond (holds r key) r.end key ≡ covered_from rs key
jump_there rs key place r s p lt e =
    ap (λ (o : Option KeyRange). jumped key o) (ap (λ (x : KeyRange). Some x) e ∙ sym (get_some rs place r lt) ∙ ap (slice_get rs) p)
    ∙ jump_is rs key s

pub jump_none : (rs : List KeyRange) (key : Bytes) (place : ℕ) → AreSeparate rs → place ≡ prefix_len (is_passed key) rs → length rs ≤ place → key ≡ covered_from rs key
jump_none rs key place s p le = ap (jumped key) (sym (get_none rs place le) ∙ ap (slice_get rs) p) ∙ jump_is rs key s

pub held_there : (ns : List Noted) (range : KeyRange) (begin : Bytes) (place : ℕ) (one : Noted) → ArePieces (pieces_of ns) → begin ≡ range.begin → place ≡ prefix_len (λ n. is_passed begin n.piece) ns → place < length ns → one ≡ get_or ns place one → if_below (later one.piece.begin begin) range.end ≡ overlap (pieces_of ns) range
held_there ns range begin place one a b p lt e =
    ap (λ k. if_below (later one.piece.begin k) range.end) b
    ∙ ap (λ (o : Option Noted). held_by range o) (ap (λ (x : Noted). Some x) e ∙ sym (get_some ns place one lt) ∙ ap (slice_get ns) (p ∙ ap (λ k. prefix_len (λ n. is_passed k n.piece) ns) b))
    ∙ held_is ns range a

pub held_none : (ns : List Noted) (range : KeyRange) (begin : Bytes) (place : ℕ) → ArePieces (pieces_of ns) → begin ≡ range.begin → place ≡ prefix_len (λ n. is_passed begin n.piece) ns → length ns ≤ place → None ≡ overlap (pieces_of ns) range
held_none ns range begin place a b p le =
    ap (held_by range) (sym (get_none ns place le) ∙ ap (slice_get ns) (p ∙ ap (λ k. prefix_len (λ n. is_passed k n.piece) ns) b))
    ∙ held_is ns range a

-- ---- a walk along the pieces

-- a piece that ends before the ranges begin is in none of them
front_falls : (p : KeyRange) (ps rs : List KeyRange) (end : Bytes) → is_below p.end end ≡ true → BeginPast end rs → AreSeparate rs → gap_in rs (p ∷ ps) ≡ gap_in rs ps
front_falls p ps [] end h b s = refl
front_falls p ps (r ∷ rs) end h b s =
    let past = below_trans p.end end r.begin h b in
    let on = below_trans p.end r.begin r.end past (proper r s.0) in
    ap (λ k. or_else (if_below k r.end) (gap_in rs (p ∷ ps))) (step_over p ps r.begin (not_past p r.begin (below_not_back p.end r.begin past)))
    ∙ ap (or_else (outside ps r)) (front_falls p ps rs r.end on s.1 s.2)

-- So far: the key is where the pieces in front end, and they are in no later range.
pub record Walks (noted : List Noted) (range : KeyRange) (from place : ℕ) (key : Bytes) : Type 0 where
  pub covered : covered_from (pieces_of (drop place noted)) key ≡ covered_from (pieces_of (drop from noted)) range.begin
  pub before : is_below key range.end ≡ true
  pub pieces : ArePieces (pieces_of (drop place noted))
  pub rest : (ranges : List KeyRange) → BeginPast range.end ranges → AreSeparate ranges → gap_in ranges (pieces_of (drop place noted)) ≡ gap_in ranges (pieces_of (drop from noted))

pub walk_begins : (noted : List Noted) (range : KeyRange) (from : ℕ) → is_backwards range ≡ false → ArePieces (pieces_of (drop from noted)) → Walks noted range from from range.begin
walk_begins noted range from h a = record { covered = refl; before = proper range h; pieces = a; rest = λ rs b s. refl }

pieces_at : (noted : List Noted) (place : ℕ) (one : Noted) → drop place noted ≡ one ∷ drop (place + 1) noted → ArePieces (pieces_of (drop place noted)) → ArePieces (pieces_of (one ∷ drop (place + 1) noted))
pieces_at noted place one e a = subst (λ xs. ArePieces (pieces_of xs)) e a

pieces_behind : (noted : List Noted) (place : ℕ) (one : Noted) → drop place noted ≡ one ∷ drop (place + 1) noted → ArePieces (pieces_of (drop place noted)) → ArePieces (pieces_of (drop (place + 1) noted))
pieces_behind noted place one e a = behind one (drop (place + 1) noted) (pieces_at noted place one e a)
  where
    behind : (n : Noted) (ns : List Noted) → ArePieces (pieces_of (n ∷ ns)) → ArePieces (pieces_of ns)
    behind n ns a = a.2

-- the walk takes the key to the end of a piece that holds it
step_past : (p : KeyRange) (ps : List KeyRange) (key : Bytes) → covered_from ps (cond (holds p key) p.end key) ≡ covered_from (p ∷ ps) key
step_past p ps key = by (holds p key)
    (λ h. ap (covered_from ps) (cond-true (holds p key) p.end key h) ∙ sym (step_in p ps key h))
    (λ h. ap (covered_from ps) (cond-false (holds p key) p.end key h) ∙ sym (step_over p ps key h))

step_before : (p range : KeyRange) (key : Bytes) → is_below key range.end ≡ true → is_below p.end range.end ≡ true → is_below (cond (holds p key) p.end key) range.end ≡ true
step_before p range key h g = by (holds p key) (λ t. ap (λ k. is_below k range.end) (cond-true (holds p key) p.end key t) ∙ g) (λ t. ap (λ k. is_below k range.end) (cond-false (holds p key) p.end key t) ∙ h)

pub walk_goes_on : (noted : List Noted) (range : KeyRange) (from place : ℕ) (key : Bytes) (one : Noted) → Walks noted range from place key → drop place noted ≡ one ∷ drop (place + 1) noted → is_below one.piece.end range.end ≡ true → Walks noted range from (place + 1) (cond (holds one.piece key) one.piece.end key)
walk_goes_on noted range from place key one w e below = record {
  covered = step_past one.piece (pieces_of (drop (place + 1) noted)) key ∙ ap (λ xs. covered_from (pieces_of xs) key) (sym e) ∙ w.covered;
  before = step_before one.piece range key w.before below;
  pieces = pieces_behind noted place one e w.pieces;
  rest = λ rs b s. sym (front_falls one.piece (pieces_of (drop (place + 1) noted)) rs range.end below b s) ∙ ap (λ xs. gap_in rs (pieces_of xs)) (sym e) ∙ w.rest rs b s;
}

some_below : (key end : Bytes) → is_below key end ≡ true → if_below key end ≡ Some key
some_below key end h = cond-true (is_below key end) (Some key) None h

-- a key before the next piece is in none
pub walk_stops : (noted : List Noted) (range : KeyRange) (from place : ℕ) (key : Bytes) (one : Noted) → Walks noted range from place key → drop place noted ≡ one ∷ drop (place + 1) noted → is_below key one.piece.begin ≡ true → outside (pieces_of (drop from noted)) range ≡ Some key
walk_stops noted range from place key one w e before =
    ap (λ k. if_below k range.end) (sym w.covered ∙ ap (λ xs. covered_from (pieces_of xs) key) e ∙ walk_stays (pieces_of (one ∷ drop (place + 1) noted)) key (before_all key one.piece (pieces_of (drop (place + 1) noted)) (pieces_at noted place one e w.pieces) before))
    ∙ some_below key range.end w.before

-- behind the last piece no key is held
pub walk_ends : (noted : List Noted) (range : KeyRange) (from place : ℕ) (key : Bytes) → Walks noted range from place key → drop place noted ≡ [] → outside (pieces_of (drop from noted)) range ≡ Some key
walk_ends noted range from place key w e =
    ap (λ k. if_below k range.end) (sym w.covered ∙ ap (λ xs. covered_from (pieces_of xs) key) e)
    ∙ some_below key range.end w.before

-- a piece that reaches to the end leaves no key
pub walk_reaches : (noted : List Noted) (range : KeyRange) (from place : ℕ) (key : Bytes) (one : Noted) → Walks noted range from place key → place < length noted → drop place noted ≡ one ∷ drop (place + 1) noted → is_below key one.piece.begin ≡ false → is_below one.piece.end range.end ≡ false → Reaches noted range from place
walk_reaches noted range from place key one w lt e begun end = record {
  within = omega arith;
  whole = ap (λ k. if_below k range.end) (sym w.covered ∙ ap (λ xs. covered_from (pieces_of xs) key) e) ∙ not_below (covered_from (one.piece ∷ rest) key) range.end past;
  pieces = w.pieces;
  rest = w.rest;
}
  where
    rest : List KeyRange
    rest = pieces_of (drop (place + 1) noted)

    held : holds one.piece key ≡ true
    held = let in_end = below_up key one.piece.end range.end w.before end in rw (begun, in_end) refl

    past : is_below (covered_from (one.piece ∷ rest) key) range.end ≡ false
    past = ap (λ k. is_below k range.end) (step_in one.piece rest key held) ∙ at_most_trans range.end one.piece.end (covered_from rest one.piece.end) end (walk_on rest one.piece.end)

-- ---- from range to range

-- So far: what is left of the ranges and of the pieces says what all of them say.
pub record Left (ranges : List KeyRange) (noted : List Noted) (at place : ℕ) : Type 0 where
  pub within : place ≤ length noted
  pub separate : AreSeparate (drop at ranges)
  pub pieces : ArePieces (pieces_of (drop place noted))
  pub same : gap_in (drop at ranges) (pieces_of (drop place noted)) ≡ gap_in ranges (pieces_of noted)

pub left_all : (ranges : List KeyRange) (noted : List Noted) → AreSeparate ranges → ArePieces (pieces_of noted) → Left ranges noted 0 0
left_all ranges noted s a = record { within = omega arith; separate = s; pieces = a; same = refl }

pub range_at : (ranges : List KeyRange) (at : ℕ) (range : KeyRange) → at < length ranges → range ≡ get_or ranges at range → drop at ranges ≡ range ∷ drop (at + 1) ranges
range_at ranges at range lt e = drop-cons ranges at range lt ∙ ap (λ n. get_or ranges at range ∷ drop n ranges) (sym (add-one at)) ∙ ap (λ x. x ∷ drop (at + 1) ranges) (sym e)

separate_at : (ranges : List KeyRange) (at : ℕ) (range : KeyRange) → drop at ranges ≡ range ∷ drop (at + 1) ranges → AreSeparate (drop at ranges) → AreSeparate (range ∷ drop (at + 1) ranges)
separate_at ranges at range e s = subst AreSeparate e s

pub left_proper : (ranges : List KeyRange) (noted : List Noted) (at place : ℕ) (range : KeyRange) → Left ranges noted at place → drop at ranges ≡ range ∷ drop (at + 1) ranges → is_backwards range ≡ false
left_proper ranges noted at place range l e = (separate_at ranges at range e l.separate).0

pub left_more : (ranges : List KeyRange) (noted : List Noted) (at place next : ℕ) (range : KeyRange) → Left ranges noted at place → drop at ranges ≡ range ∷ drop (at + 1) ranges → Reaches noted range place next → Left ranges noted (at + 1) next
left_more ranges noted at place next range l e r =
    let s = separate_at ranges at range e l.separate in
    record {
      within = r.within;
      separate = s.2;
      pieces = r.pieces;
      same =
          r.rest (drop (at + 1) ranges) s.1 s.2
          ∙ ap (λ o. or_else o (gap_in (drop (at + 1) ranges) (pieces_of (drop place noted)))) (sym r.whole)
          ∙ ap (λ rs. gap_in rs (pieces_of (drop place noted))) (sym e)
          ∙ l.same;
    }

pub left_found : (ranges : List KeyRange) (noted : List Noted) (at place : ℕ) (range : KeyRange) (key : Bytes) → Left ranges noted at place → drop at ranges ≡ range ∷ drop (at + 1) ranges → outside (pieces_of (drop place noted)) range ≡ Some key → gap_in ranges (pieces_of noted) ≡ Some key
left_found ranges noted at place range key l e o =
    sym l.same ∙ ap (λ rs. gap_in rs (pieces_of (drop place noted))) e
    ∙ ap (λ f. or_else f (gap_in (drop (at + 1) ranges) (pieces_of (drop place noted)))) o

pub left_none : (ranges : List KeyRange) (noted : List Noted) (at place : ℕ) → Left ranges noted at place → drop at ranges ≡ [] → gap_in ranges (pieces_of noted) ≡ None
left_none ranges noted at place l e = sym l.same ∙ ap (λ rs. gap_in rs (pieces_of (drop place noted))) e
