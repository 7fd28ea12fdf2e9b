-- Pieces stay in order when they are cut and when a set comes between them.
use Rattle.std.proofs.Common.{◌≡◌, ℕ, Bool, true, false, not, ◌&&◌, cond, refl, List, [], ◌∷◌, ◌++◌, Some, None, flat_map, ap, ◌∙◌}
use Rattle.std.specs.List.{AllByRecursion}
use Rattle.fb_bytes.specs.Bytes.{Bytes, is_below}
use Rattle.fb_bytes.specs.declared.KeyRange.{KeyRange}
use Rattle.fb_bytes.specs.Keys.{is_backwards}
use Rattle.fb_bytes.proofs.Order.{not_both, below_up, below_itself, below_not_back}
use Rattle.version_map.specs.Pieces.{Piece, version_at, front_of, back_of, piece_of, keys_before, keys_from, ArePieces, BeginFrom}
use Rattle.version_map.proofs.Held.{by_test, not_false}

-- of three keys in falling order the first isn't below the last
pub at_or_past : (x y z : Bytes) → is_below x y ≡ false → is_below y z ≡ false → is_below x z ≡ false
at_or_past x y z h g = go (is_below x z) refl
  where
    go : (b : Bool) → is_below x z ≡ b → is_below x z ≡ false
    go false e = e
    go true e = not_both (below_up x y z e g) h

-- pieces of which none begins before a key
abbrev pub AreFrom : Bytes → List Piece → Type 0
AreFrom key pieces = AllByRecursion (λ piece. is_below piece.range.begin key ≡ false) pieces

first_from : (key : Bytes) (pieces : List Piece) → AreFrom key pieces → BeginFrom key pieces
first_from key [] h = tt
first_from key (p ∷ ps) h = h.0

lower : (a b : Bytes) (pieces : List Piece) → is_below a b ≡ false → AreFrom a pieces → AreFrom b pieces
lower a b [] h g = tt
lower a b (p ∷ ps) h g = (at_or_past p.range.begin a b g.0 h, lower a b ps h g.1)

pub all_from : (key : Bytes) (pieces : List Piece) → ArePieces pieces → BeginFrom key pieces → AreFrom key pieces
all_from key [] h g = tt
all_from key (p ∷ ps) h g = (g, all_from key ps h.2 (first_from key ps (lower p.range.end key ps (at_or_past p.range.end p.range.begin key (below_not_back p.range.begin p.range.end h.0) g) (all_from p.range.end ps h.2 h.1))))

-- no key before them has a version
pub none_before : (bound : Bytes) (pieces : List Piece) (key : Bytes) → AreFrom bound pieces → is_below key bound ≡ true → version_at pieces key ≡ None
none_before bound [] key h g = refl
none_before bound (p ∷ ps) key h g = ap (λ b. cond (not b && is_below key p.range.end) (Some p.version) (version_at ps key)) (before p.range.begin h.0) ∙ none_before bound ps key h.1 g
  where
    before : (begin : Bytes) → is_below begin bound ≡ false → is_below key begin ≡ true
    before begin e = below_up key begin bound g e

-- a range inside another
abbrev IsInside : KeyRange → KeyRange → Type 0
IsInside a b = (is_below a.begin b.begin ≡ false) × (is_below b.end a.end ≡ false)

before_inside : (k : Bytes) (r : KeyRange) → IsInside (keys_before k r) r
before_inside k r = (below_itself r.begin, by_test (is_below k r.end) (λ z. is_below r.end z ≡ false) k r.end (λ h. below_not_back k r.end h) (λ h. below_itself r.end))

from_inside : (k : Bytes) (r : KeyRange) → IsInside (keys_from k r) r
from_inside k r = (by_test (is_below r.begin k) (λ z. is_below z r.begin ≡ false) k r.begin (λ h. below_not_back r.begin k h) (λ h. below_itself r.begin), below_itself r.end)

-- what is left of pieces
abbrev cuts : (KeyRange → KeyRange) → List Piece → List Piece
cuts cut pieces = flat_map (λ piece. piece_of (cut piece.range) piece.version) pieces

cuts_from : (cut : KeyRange → KeyRange) → ((r : KeyRange) → IsInside (cut r) r) → (key : Bytes) (pieces : List Piece) → AreFrom key pieces → AreFrom key (cuts cut pieces)
cuts_from cut inside key [] h = tt
cuts_from cut inside key (p ∷ ps) h = by_test (is_backwards (cut p.range)) (λ z. AreFrom key (z ++ cuts cut ps)) [] (record { range = cut p.range; version = p.version } ∷ [])
    (λ e. cuts_from cut inside key ps h.1)
    (λ e. (at_or_past (cut p.range).begin p.range.begin key (inside p.range).0 h.0, cuts_from cut inside key ps h.1))

cuts_ordered : (cut : KeyRange → KeyRange) → ((r : KeyRange) → IsInside (cut r) r) → (pieces : List Piece) → ArePieces pieces → ArePieces (cuts cut pieces)
cuts_ordered cut inside [] h = tt
cuts_ordered cut inside (p ∷ ps) h = by_test (is_backwards (cut p.range)) (λ z. ArePieces (z ++ cuts cut ps)) [] (record { range = cut p.range; version = p.version } ∷ [])
    (λ e. cuts_ordered cut inside ps h.2)
    (λ e. (not_false _ e, first_from _ (cuts cut ps) (lower p.range.end (cut p.range).end (cuts cut ps) (inside p.range).1 (cuts_from cut inside p.range.end ps (all_from p.range.end ps h.2 h.1))), cuts_ordered cut inside ps h.2))

-- pieces that end at or before a key
abbrev AreUpto : Bytes → List Piece → Type 0
AreUpto key pieces = AllByRecursion (λ piece. is_below key piece.range.end ≡ false) pieces

fronts_upto : (key : Bytes) (pieces : List Piece) → AreUpto key (flat_map (front_of key) pieces)
fronts_upto key [] = tt
fronts_upto key (p ∷ ps) = by_test (is_backwards (keys_before key p.range)) (λ z. AreUpto key (z ++ flat_map (front_of key) ps)) [] (record { range = keys_before key p.range; version = p.version } ∷ [])
    (λ e. fronts_upto key ps)
    (λ e. (by_test (is_below key p.range.end) (λ z. is_below key z ≡ false) key p.range.end (λ h. below_itself key) (λ h. h), fronts_upto key ps))

backs_from : (key : Bytes) (pieces : List Piece) → AreFrom key (flat_map (back_of key) pieces)
backs_from key [] = tt
backs_from key (p ∷ ps) = by_test (is_backwards (keys_from key p.range)) (λ z. AreFrom key (z ++ flat_map (back_of key) ps)) [] (record { range = keys_from key p.range; version = p.version } ∷ [])
    (λ e. backs_from key ps)
    (λ e. (by_test (is_below p.range.begin key) (λ z. is_below z key ≡ false) key p.range.begin (λ h. below_itself key) (λ h. h), backs_from key ps))

append_ordered : (key : Bytes) (front back : List Piece) → ArePieces front → AreUpto key front → ArePieces back → AreFrom key back → ArePieces (front ++ back)
append_ordered key [] back f u b h = b
append_ordered key (p ∷ []) back f u b h = (f.0, first_from p.range.end back (lower key p.range.end back u.0 h), b)
append_ordered key (p ∷ q ∷ ps) back f u b h = (f.0, f.1, append_ordered key (q ∷ ps) back f.2 u.1 b h)

pub set_ordered : (range : KeyRange) (version : ℕ) (pieces : List Piece) → is_backwards range ≡ false → ArePieces pieces → ArePieces (flat_map (front_of range.begin) pieces ++ record { range = range; version = version } ∷ flat_map (back_of range.end) pieces)
set_ordered range version pieces e h =
    let backs = flat_map (back_of range.end) pieces in
    let from_end : AreFrom range.end backs = backs_from range.end pieces in
    let forward : is_below range.begin range.end ≡ true = not_false _ e in
    append_ordered range.begin (flat_map (front_of range.begin) pieces) (record { range = range; version = version } ∷ backs)
    (cuts_ordered (keys_before range.begin) (before_inside range.begin) pieces h)
    (fronts_upto range.begin pieces)
    (forward, first_from range.end backs from_end, cuts_ordered (keys_from range.end) (from_inside range.end) pieces h)
    (below_itself range.begin, lower range.end range.begin backs (below_not_back range.begin range.end forward) from_end)
