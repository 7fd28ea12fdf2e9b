-- Where an element belongs in a list, and what a search by halving finds among pieces in order.
use Rattle.std.proofs.Common.{◌≡◌, ℕ, zero, suc, ◌+◌, ◌≤◌, ◌<◌, Bool, true, false, not, List, [], ◌∷◌, length, get_or, map, subst, drop, drop-cons, add-one, refl, sym, ap, ◌∙◌, arith}
use Rattle.std.specs.List.{insert, prefix_len}
use Rattle.std.specs.List.Sorted.{IsPartitionedBy}
use Rattle.std.proofs.lemmas.List.Sums.{prefix_len-le-length}
use Rattle.fb_bytes.specs.Bytes.{Bytes, is_below}
use Rattle.fb_bytes.specs.Keys.{is_backwards, AreSeparate}
use Rattle.fb_bytes.specs.inner.Keys.{is_passed}
use Rattle.fb_bytes.specs.declared.KeyRange.{KeyRange}
use Rattle.fb_bytes.proofs.Order.{below_trans, below_up, below_down, not_both}
use Rattle.snapshot_plan.specs.Noted.{Noted, pieces_of, placed, with_noted}
use Rattle.snapshot_plan.specs.Pieces.{ArePieces}
use Rattle.snapshot_plan.proofs.Walking.{proper, separate_pieces}

pub place_within : {X : Type 0} (before : X → Bool) (xs : List X) → prefix_len before xs ≤ length xs
place_within before xs = prefix_len-le-length before xs

pub place_behind : {X : Type 0} (before : X → Bool) (y : X) (ys : List X) → before y ≡ true → prefix_len before (y ∷ ys) ≡ suc (prefix_len before ys)
place_behind before y ys h = rw h (omega arith)

pub place_front : {X : Type 0} (before : X → Bool) (y : X) (ys : List X) → before y ≡ false → prefix_len before (y ∷ ys) ≡ 0
place_front before y ys h = rw h refl

placed_behind : {X : Type 0} (before : X → Bool) (x y : X) (ys : List X) → before y ≡ true → placed before x (y ∷ ys) ≡ y ∷ placed before x ys
placed_behind before x y ys h = rw h refl

placed_front : {X : Type 0} (before : X → Bool) (x y : X) (ys : List X) → before y ≡ false → placed before x (y ∷ ys) ≡ x ∷ y ∷ ys
placed_front before x y ys h = rw h refl

pub inserted : {X : Type 0} (before : X → Bool) (x : X) (xs : List X) → insert xs (prefix_len before xs) x ≡ placed before x xs
inserted before x [] = refl
inserted before x (y ∷ ys) = go (before y) refl (inserted before x ys)
  where
    go : (b : Bool) → before y ≡ b → insert ys (prefix_len before ys) x ≡ placed before x ys → insert (y ∷ ys) (prefix_len before (y ∷ ys)) x ≡ placed before x (y ∷ ys)
    go true b ih = ap (λ n. insert (y ∷ ys) n x) (place_behind before y ys b) ∙ ap (λ zs. y ∷ zs) ih ∙ sym (placed_behind before x y ys b)
    go false b ih = ap (λ n. insert (y ∷ ys) n x) (place_front before y ys b) ∙ sym (placed_front before x y ys b)

-- ---- the same with what is seen of the list and of the new element

pub noted_place_is : (noted seen : List Noted) (one : Noted) (said : Bytes) (at : ℕ) → seen ≡ noted → said ≡ one.piece.begin → at ≡ prefix_len (λ n. is_below n.piece.begin said) seen → at ≡ prefix_len (λ n. is_below n.piece.begin one.piece.begin) noted
noted_place_is noted seen one said at s n e = e ∙ ap (λ (x : Bytes). prefix_len (λ n. is_below n.piece.begin x) seen) n ∙ ap (prefix_len (λ n. is_below n.piece.begin one.piece.begin)) s

pub noted_inserted : (noted : List Noted) (one : Noted) (at : ℕ) → at ≡ prefix_len (λ n. is_below n.piece.begin one.piece.begin) noted → insert noted at one ≡ with_noted one noted
noted_inserted noted one at e = ap (λ i. insert noted i one) e ∙ inserted (λ n. is_below n.piece.begin one.piece.begin) one noted

-- ---- pieces in order have their begins and their ends in order

abbrev Rises : KeyRange → KeyRange → Type 0
Rises a b = (is_below a.begin b.begin ≡ true) × (is_below a.end b.end ≡ true)

rises_next : (a b : KeyRange) → is_backwards a ≡ false → is_backwards b ≡ false → is_below b.begin a.end ≡ false → Rises a b
rises_next a b h g from = (below_up a.begin b.begin a.end (proper a h) from, below_down a.end b.begin b.end from (proper b g))

rises_on : (a b c : KeyRange) → Rises a b → Rises b c → Rises a c
rises_on a b c r q = (below_trans a.begin b.begin c.begin r.0 q.0, below_trans a.end b.end c.end r.1 q.1)

rises : {X : Type 0} (piece : X → KeyRange) (x : X) (xs : List X) (j : ℕ) (d : X) → ArePieces (map piece (x ∷ xs)) → j < length xs → Rises (piece x) (piece (get_or xs j d))
rises piece x [] j d a lt = absurd (omega arith)
rises piece x (y ∷ ys) zero d a lt = rises_next (piece x) (piece y) a.0 a.2.0 a.1
rises piece x (y ∷ ys) (suc j) d a lt = rises_on (piece x) (piece y) (piece (get_or ys j d)) (rises_next (piece x) (piece y) a.0 a.2.0 a.1) (rises piece y ys j d a.2 (omega arith))

-- what holds of a piece and of those before it parts them
parted : {X : Type 0} (piece : X → KeyRange) (p : KeyRange → Bool) → ((a b : KeyRange) → Rises a b → p b ≡ true → p a ≡ true) → (xs : List X) → ArePieces (map piece xs) → IsPartitionedBy (λ x. p (piece x)) xs
parted piece p f [] a i j d le lt e = absurd (omega arith)
parted piece p f (x ∷ xs) a zero zero d le lt e = e
parted piece p f (x ∷ xs) a zero (suc j) d le lt e = f (piece x) (piece (get_or xs j d)) (rises piece x xs j d a (omega arith)) e
parted piece p f (x ∷ xs) a (suc i) zero d le lt e = absurd (omega arith)
parted piece p f (x ∷ xs) a (suc i) (suc j) d le lt e = parted piece p f xs a.2 i j d (omega arith) (omega arith) e

pub begins_parted : (key : Bytes) (ns : List Noted) → ArePieces (pieces_of ns) → IsPartitionedBy (λ n. is_below n.piece.begin key) ns
begins_parted key ns a = parted (λ (n : Noted). n.piece) (λ r. is_below r.begin key) (λ a b r e. below_trans a.begin b.begin key r.0 e) ns a

passed_before : (key a b : Bytes) → is_below a b ≡ true → not (is_below key b) ≡ true → not (is_below key a) ≡ true
passed_before key a b h e = go (is_below key a) refl
  where
    go : (t : Bool) → is_below key a ≡ t → not (is_below key a) ≡ true
    go false p = ap not p
    go true p = not_both e (ap not (below_trans key a b p h))

pub ends_parted : (key : Bytes) (ns : List Noted) → ArePieces (pieces_of ns) → IsPartitionedBy (λ n. is_passed key n.piece) ns
ends_parted key ns a = parted (λ (n : Noted). n.piece) (is_passed key) (λ a b r e. passed_before key a.end b.end r.1 e) ns a

map_same : (rs : List KeyRange) → map (λ r. r) rs ≡ rs
map_same [] = refl
map_same (r ∷ rs) = ap (λ xs. r ∷ xs) (map_same rs)

pub ranges_parted : (key : Bytes) (rs : List KeyRange) → AreSeparate rs → IsPartitionedBy (is_passed key) rs
ranges_parted key rs s = parted (λ (r : KeyRange). r) (is_passed key) (λ a b r e. passed_before key a.end b.end r.1 e) rs (subst ArePieces (sym (map_same rs)) (separate_pieces rs s))

-- ---- what stands at a place

pub at_place : (noted : List Noted) (place : ℕ) (one : Noted) → place < length noted → one ≡ get_or noted place one → drop place noted ≡ one ∷ drop (place + 1) noted
at_place noted place one lt e = drop-cons noted place one lt ∙ ap (λ n. get_or noted place one ∷ drop n noted) (sym (add-one place)) ∙ ap (λ x. x ∷ drop (place + 1) noted) (sym e)
