-- What is taken back.
use Rattle.std.proofs.Common.{◌≡◌, ℕ, Bool, true, false, List, [], ◌∷◌, refl, sym, ap, ◌∙◌, subst}
use Rattle.std.specs.Prelude.{slice_get}
use Rattle.std.specs.List.{remove, prefix_len}
use Rattle.std.proofs.lemmas.Bool.{cond-true, cond-false, cond_both}
use Rattle.fb_bytes.specs.Bytes.{Bytes, is_below, is_same}
use Rattle.fb_bytes.specs.declared.KeyRange.{KeyRange}
use Rattle.fb_bytes.proofs.Order.{below_trans, below_up, below_not_back, below_not_same, same_itself}
use Rattle.snapshot_plan.specs.Noted.{Noted, Map, pieces_of, with_noted, without, begins_at}
use Rattle.snapshot_plan.specs.Pieces.{BeginFrom, ArePieces}
use Rattle.snapshot_plan.specs.Laws.{TakeBackLaw}
use Rattle.snapshot_plan.proofs.Walking.{by, proper, at_most_trans}
use Rattle.snapshot_plan.proofs.Placing.{place_behind, place_front}
use Rattle.snapshot_plan.proofs.Manifests.{placed_cases, one_below, same_turn}

abbrev before : Bytes → Noted → Bool
before key n = is_below n.piece.begin key

here : (key : Bytes) (n : Noted) (ns : List Noted) → is_same n.piece.begin key ≡ true → without key (n ∷ ns) ≡ ns
here key n ns h = cond-true (is_same n.piece.begin key) ns (n ∷ without key ns) h

past : (key : Bytes) (n : Noted) (ns : List Noted) → is_same n.piece.begin key ≡ false → without key (n ∷ ns) ≡ n ∷ without key ns
past key n ns h = cond-false (is_same n.piece.begin key) ns (n ∷ without key ns) h

-- pieces that begin past the key don't begin at it
none_past : (key : Bytes) (n : Noted) (ns : List Noted) → ArePieces (pieces_of (n ∷ ns)) → is_below key n.piece.begin ≡ true → without key (n ∷ ns) ≡ n ∷ ns
none_past key n [] a h = past key n [] (same_turn key n.piece.begin (below_not_same key n.piece.begin h))
none_past key n (m ∷ ms) a h =
    past key n (m ∷ ms) (same_turn key n.piece.begin (below_not_same key n.piece.begin h))
    ∙ ap (λ xs. n ∷ xs) (none_past key m ms a.2 (below_trans key n.piece.begin m.piece.begin h (below_up n.piece.begin m.piece.begin n.piece.end (proper n.piece a.0) a.1)))

pub none_there : (key : Bytes) (ns : List Noted) → ArePieces (pieces_of ns) → begins_at key (slice_get ns (prefix_len (before key) ns)) ≡ false → without key ns ≡ ns
none_there key [] a h = refl
none_there key (n ∷ ns) a h = by (before key n)
    (λ b. past key n ns (below_not_same n.piece.begin key b) ∙ ap (λ xs. n ∷ xs) (none_there key ns a.2 (sym (ap (λ i. begins_at key (slice_get (n ∷ ns) i)) (place_behind (before key) n ns b)) ∙ h)))
    (λ b.
    let other : is_same n.piece.begin key ≡ false = sym (ap (λ i. begins_at key (slice_get (n ∷ ns) i)) (place_front (before key) n ns b)) ∙ h in
    none_past key n ns a (one_below key n.piece.begin (same_turn n.piece.begin key other) b))

pub one_there : (key : Bytes) (ns : List Noted) → begins_at key (slice_get ns (prefix_len (before key) ns)) ≡ true → remove ns (prefix_len (before key) ns) ≡ without key ns
one_there key [] h = absurd cc
one_there key (n ∷ ns) h = by (before key n)
    (λ b.
    ap (remove (n ∷ ns)) (place_behind (before key) n ns b)
    ∙ ap (λ xs. n ∷ xs) (one_there key ns (sym (ap (λ i. begins_at key (slice_get (n ∷ ns) i)) (place_behind (before key) n ns b)) ∙ h))
    ∙ sym (past key n ns (below_not_same n.piece.begin key b)))
    (λ b.
    ap (remove (n ∷ ns)) (place_front (before key) n ns b)
    ∙ sym (here key n ns (sym (ap (λ i. begins_at key (slice_get (n ∷ ns) i)) (place_front (before key) n ns b)) ∙ h)))

pub take_back_law : TakeBackLaw
take_back_law one [] = here one.piece.begin one [] (same_itself one.piece.begin)
take_back_law one (n ∷ ns) =
    placed_cases (before one.piece.begin) one n ns (λ xs. without one.piece.begin xs ≡ n ∷ ns)
    (λ t. past one.piece.begin n (with_noted one ns) (below_not_same n.piece.begin one.piece.begin t) ∙ ap (λ xs. n ∷ xs) (take_back_law one ns))
    (λ f. here one.piece.begin one (n ∷ ns) (same_itself one.piece.begin))

-- ---- pieces stay in order

skipped : (end : Bytes) (n : Noted) (ns : List Noted) → BeginFrom end (pieces_of (n ∷ ns)) → ArePieces (pieces_of (n ∷ ns)) → BeginFrom end (pieces_of ns)
skipped end n [] f a = tt
skipped end n (m ∷ ms) f a =
    at_most_trans end n.piece.end m.piece.begin (at_most_trans end n.piece.begin n.piece.end f (below_not_back n.piece.begin n.piece.end (proper n.piece a.0))) a.1

still_from : (key end : Bytes) (ns : List Noted) → BeginFrom end (pieces_of ns) → ArePieces (pieces_of ns) → BeginFrom end (pieces_of (without key ns))
still_from key end [] f a = tt
still_from key end (n ∷ ns) f a = cond_both (is_same n.piece.begin key) ns (n ∷ without key ns) (λ xs. BeginFrom end (pieces_of xs)) (λ t. skipped end n ns f a) (λ t. f)

without_pieces : (key : Bytes) (ns : List Noted) → ArePieces (pieces_of ns) → ArePieces (pieces_of (without key ns))
without_pieces key [] a = tt
without_pieces key (n ∷ ns) a = cond_both (is_same n.piece.begin key) ns (n ∷ without key ns) (λ xs. ArePieces (pieces_of xs)) (λ t. a.2) (λ t. (a.0, still_from key n.piece.end ns a.1 a.2, without_pieces key ns a.2))

-- ---- the same with what is seen of the list

pub taken : (noted seen shown new : List Noted) (key : Bytes) (place : ℕ) → seen ≡ noted → shown ≡ noted → place ≡ prefix_len (before key) seen → begins_at key (slice_get shown place) ≡ true → new ≡ remove noted place → new ≡ without key noted
taken noted seen shown new key place s t p b n =
    let at : place ≡ prefix_len (before key) noted = p ∙ ap (prefix_len (before key)) s in
    n ∙ ap (remove noted) at ∙ one_there key noted (sym (ap (λ i. begins_at key (slice_get noted i)) at) ∙ ap (λ xs. begins_at key (slice_get xs place)) (sym t) ∙ b)

pub not_taken : (noted seen shown : List Noted) (key : Bytes) (place : ℕ) → ArePieces (pieces_of noted) → seen ≡ noted → shown ≡ noted → place ≡ prefix_len (before key) seen → begins_at key (slice_get shown place) ≡ false → noted ≡ without key noted
not_taken noted seen shown key place a s t p b =
    let at : place ≡ prefix_len (before key) noted = p ∙ ap (prefix_len (before key)) s in
    sym (none_there key noted a (sym (ap (λ i. begins_at key (slice_get noted i)) at) ∙ ap (λ xs. begins_at key (slice_get xs place)) (sym t) ∙ b))

-- the map with other noted pieces
abbrev with_list : List KeyRange → List Noted → Map
with_list ranges noted = record { ranges = ranges; noted = noted }

pub map_taken : (ranges : List KeyRange) (noted new : List Noted) (key : Bytes) (now : Map) → with_list ranges noted ≡ now → new ≡ without key noted → with_list ranges new ≡ record now { noted = without key now.noted }
map_taken ranges noted new key now v n = ap (with_list ranges) n ∙ ap (λ (m : Map). with_list m.ranges (without key m.noted)) v

pub taken_pieces : (noted new : List Noted) (key : Bytes) → ArePieces (pieces_of noted) → new ≡ without key noted → ArePieces (pieces_of new)
taken_pieces noted new key a e = subst (λ xs. ArePieces (pieces_of xs)) (sym e) (without_pieces key noted a)
