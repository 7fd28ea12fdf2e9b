-- A set changes the pieces that it overlaps, and no other.
use Rattle.std.proofs.Common.{◌≡◌, ℕ, zero, suc, ◌+◌, ◌≤◌, Bool, true, false, not, cond, List, [], ◌∷◌, ◌++◌, length, take, drop, flat_map, refl, sym, ap, ◌∙◌, subst, append_assoc, arith}
use Rattle.std.specs.List.{prefix_len, AllByRecursion}
use Rattle.std.proofs.lemmas.List.{append-nil, take-append-drop, drop-drop, take-append-le, length-take-le}
use Rattle.std.proofs.Math.Seq.{drop-append_seam}
use Rattle.std.proofs.lemmas.Grind.{flat_map-append}
use Rattle.fb_bytes.specs.Bytes.{Bytes, is_below}
use Rattle.fb_bytes.specs.declared.KeyRange.{KeyRange}
use Rattle.fb_bytes.specs.Keys.{is_backwards}
use Rattle.fb_bytes.proofs.Order.{below_trans, below_up, below_not_back}
use Rattle.version_map.specs.Pieces.{Piece, ArePieces, BeginFrom, keys_before, keys_from, piece_of, front_of, back_of}
use Rattle.version_map.proofs.Held.{by_test}
use Rattle.version_map.proofs.Cuts.{AreFrom, all_from, at_or_past}
use Rattle.version_map.specs.inner.Pieces.{is_past, is_begun}
use Rattle.version_map.proofs.Halves.{counted, uncounted, pieces_drop}

-- pieces of which none ends past a key
abbrev AreUpto : Bytes → List Piece → Type 0
AreUpto key pieces = AllByRecursion (λ piece. is_below key piece.range.end ≡ false) pieces

full : (range : KeyRange) (version : ℕ) → is_below range.begin range.end ≡ true → piece_of range version ≡ record { range = range; version = version } ∷ []
full range version h = ap (λ t. cond (not t) [] (record { range = range; version = version } ∷ [])) h

none : (range : KeyRange) (version : ℕ) → is_below range.begin range.end ≡ false → piece_of range version ≡ []
none range version h = ap (λ t. cond (not t) [] (record { range = range; version = version } ∷ [])) h

fronts_kept : (b : Bytes) (xs : List Piece) → AreUpto b xs → ArePieces xs → flat_map (front_of b) xs ≡ xs
fronts_kept b [] u h = refl
fronts_kept b (x ∷ xs) u h =
    let whole : keys_before b x.range ≡ x.range = ap (λ t. record { begin = x.range.begin; end = cond t b x.range.end }) u.0 in
    let one : front_of b x ≡ x ∷ [] = ap (λ r. piece_of r x.version) whole ∙ full x.range x.version h.0 in
    (λ i. one i ++ fronts_kept b xs u.1 h.2 i)

backs_lost : (b e : Bytes) (xs : List Piece) → is_below b e ≡ true → AreUpto b xs → ArePieces xs → flat_map (back_of e) xs ≡ []
backs_lost b e [] l u h = refl
backs_lost b e (x ∷ xs) l u h =
    let upto : is_below e x.range.end ≡ false = at_or_past e b x.range.end (below_not_back b e l) u.0 in
    let before : is_below x.range.begin e ≡ true = below_up x.range.begin e x.range.end h.0 upto in
    let gone : back_of e x ≡ [] = none (keys_from e x.range) x.version (ap (λ t. is_below (cond t e x.range.begin) x.range.end) before ∙ upto) in
    (λ i. gone i ++ backs_lost b e xs l u.1 h.2 i)

fronts_lost : (b e : Bytes) (xs : List Piece) → is_below b e ≡ true → AreFrom e xs → flat_map (front_of b) xs ≡ []
fronts_lost b e [] l u = refl
fronts_lost b e (x ∷ xs) l u =
    let from : is_below x.range.begin b ≡ false = at_or_past x.range.begin e b u.0 (below_not_back b e l) in
    let gone : front_of b x ≡ [] = none (keys_before b x.range) x.version
    (by_test (is_below b x.range.end) (λ z. is_below x.range.begin z ≡ false) b x.range.end (λ t. from) (λ t. at_or_past x.range.begin b x.range.end from t)) in
    (λ i. gone i ++ fronts_lost b e xs l u.1 i)

backs_kept : (e : Bytes) (xs : List Piece) → AreFrom e xs → ArePieces xs → flat_map (back_of e) xs ≡ xs
backs_kept e [] u h = refl
backs_kept e (x ∷ xs) u h =
    let whole : keys_from e x.range ≡ x.range = ap (λ t. record { begin = cond t e x.range.begin; end = x.range.end }) u.0 in
    let one : back_of e x ≡ x ∷ [] = ap (λ r. piece_of r x.version) whole ∙ full x.range x.version h.0 in
    (λ i. one i ++ backs_kept e xs u.1 h.2 i)

upto_take : (b : Bytes) (xs : List Piece) → AreUpto b (take (prefix_len (is_past b) xs) xs)
upto_take b [] = tt
upto_take b (x ∷ xs) = go (is_below b x.range.end) refl (upto_take b xs)
  where
    go : (t : Bool) → is_below b x.range.end ≡ t → AreUpto b (take (prefix_len (is_past b) xs) xs) → AreUpto b (take (prefix_len (is_past b) (x ∷ xs)) (x ∷ xs))
    go true e ih = subst (λ n. AreUpto b (take n (x ∷ xs))) (sym (uncounted (is_past b) x xs (ap not e))) tt
    go false e ih = subst (λ n. AreUpto b (take n (x ∷ xs))) (sym (counted (is_past b) x xs (ap not e))) (e, ih)

from_drop : (e : Bytes) (xs : List Piece) → ArePieces xs → AreFrom e (drop (prefix_len (is_begun e) xs) xs)
from_drop e [] h = tt
from_drop e (x ∷ xs) h = go (is_below x.range.begin e) refl (from_drop e xs h.2)
  where
    go : (t : Bool) → is_below x.range.begin e ≡ t → AreFrom e (drop (prefix_len (is_begun e) xs) xs) → AreFrom e (drop (prefix_len (is_begun e) (x ∷ xs)) (x ∷ xs))
    go true t ih = subst (λ n. AreFrom e (drop n (x ∷ xs))) (sym (counted (is_begun e) x xs t)) ih
    go false t ih = subst (λ n. AreFrom e (drop n (x ∷ xs))) (sym (uncounted (is_begun e) x xs t)) (all_from e (x ∷ xs) h t)

begins_take : (n : ℕ) (xs : List Piece) → ArePieces xs → ArePieces (take n xs)
begins_take zero [] h = tt
begins_take zero (x ∷ xs) h = tt
begins_take (suc n) [] h = tt
begins_take (suc n) (x ∷ xs) h = (h.0, next n xs h.1, begins_take n xs h.2)
  where
    next : (m : ℕ) (ys : List Piece) → BeginFrom x.range.end ys → BeginFrom x.range.end (take m ys)
    next zero [] g = tt
    next zero (y ∷ ys) g = tt
    next (suc m) [] g = tt
    next (suc m) (y ∷ ys) g = g

-- those that end before the range are among those that begin before its end
pub places_ordered : (b e : Bytes) (xs : List Piece) → is_below b e ≡ true → ArePieces xs → prefix_len (is_past b) xs ≤ prefix_len (is_begun e) xs
places_ordered b e [] l h = omega arith
places_ordered b e (x ∷ xs) l h = go (is_below b x.range.end) refl (places_ordered b e xs l h.2)
  where
    go : (t : Bool) → is_below b x.range.end ≡ t → prefix_len (is_past b) xs ≤ prefix_len (is_begun e) xs → prefix_len (is_past b) (x ∷ xs) ≤ prefix_len (is_begun e) (x ∷ xs)
    go true t ih = let z = uncounted (is_past b) x xs (ap not t) in omega (arith, z)
    go false t ih =
        let begun : is_below x.range.begin e ≡ true = below_trans x.range.begin b e (below_up x.range.begin b x.range.end h.0 t) l in
        let one = counted (is_past b) x xs (ap not t) in
        let two = counted (is_begun e) x xs begun in
        omega (arith, one, two, ih)

three_parts : (xs : List Piece) (n k : ℕ) → xs ≡ take n xs ++ (take k (drop n xs) ++ drop (n + k) xs)
three_parts xs n k =
    sym (take-append-drop n xs)
    ∙ ap (λ (ys : List Piece). take n xs ++ ys) (sym (take-append-drop k (drop n xs)) ∙ ap (λ (ys : List Piece). take k (drop n xs) ++ ys) (drop-drop k n xs))

pub spliced : (b e : Bytes) (n k m : ℕ) (xs run middle : List Piece) (new : Piece) → is_below b e ≡ true → ArePieces xs → n ≡ prefix_len (is_past b) xs → m ≡ prefix_len (is_begun e) xs → n + k ≡ m → run ≡ take k (drop n xs)
    → middle ≡ flat_map (front_of b) run ++ new ∷ flat_map (back_of e) run → take n xs ++ (middle ++ drop m xs) ≡ flat_map (front_of b) xs ++ new ∷ flat_map (back_of e) xs
spliced b e n k m xs run middle new l h p q t r s =
    let before = take n xs in
    let behind = drop m xs in
    let parts : xs ≡ before ++ (run ++ behind) =
    three_parts xs n k ∙ ap (λ d. before ++ (take k (drop n xs) ++ drop d xs)) t ∙ ap (λ ys. before ++ (ys ++ behind)) (sym r) in
    let upto : AreUpto b before = subst (λ k. AreUpto b (take k xs)) (sym p) (upto_take b xs) in
    let from : AreFrom e behind = subst (λ k. AreFrom e (drop k xs)) (sym q) (from_drop e xs h) in
    let fronts : flat_map (front_of b) xs ≡ before ++ flat_map (front_of b) run =
    ap (flat_map (front_of b)) parts ∙ flat_map-append (front_of b) before (run ++ behind)
    ∙ (λ i. fronts_kept b before upto (begins_take n xs h) i ++ flat_map-append (front_of b) run behind i)
    ∙ ap (λ ys. before ++ (flat_map (front_of b) run ++ ys)) (fronts_lost b e behind l from)
    ∙ ap (λ ys. before ++ ys) (append-nil (flat_map (front_of b) run)) in
    let backs : flat_map (back_of e) xs ≡ flat_map (back_of e) run ++ behind =
    ap (flat_map (back_of e)) parts ∙ flat_map-append (back_of e) before (run ++ behind)
    ∙ (λ i. backs_lost b e before l upto (begins_take n xs h) i ++ flat_map-append (back_of e) run behind i)
    ∙ ap (λ ys. flat_map (back_of e) run ++ ys) (backs_kept e behind from (pieces_drop m xs h)) in
    ap (λ ys. before ++ (ys ++ behind)) s
    ∙ ap (λ ys. before ++ ys) (append_assoc (flat_map (front_of b) run) (new ∷ flat_map (back_of e) run) behind)
    ∙ sym (append_assoc before (flat_map (front_of b) run) (new ∷ (flat_map (back_of e) run ++ behind)))
    ∙ (λ i. sym fronts i ++ new ∷ sym backs i)

pub forward : (range : KeyRange) → is_backwards range ≡ false → is_below range.begin range.end ≡ true
forward range h = go (is_below range.begin range.end) refl h
  where
    go : (t : Bool) → is_below range.begin range.end ≡ t → not t ≡ false → is_below range.begin range.end ≡ true
    go true e f = e
    go false e f = cc

-- pieces put in behind a run, and the run taken out
pub placed : (n k m : ℕ) (xs cut one new : List Piece) → n + k ≡ m → m ≤ length xs → one ≡ (take m xs ++ cut) ++ drop m xs → new ≡ take n one ++ drop (n + k) one → new ≡ take n xs ++ (cut ++ drop m xs)
placed n k m xs cut one new t within p q =
    let long : length (take m xs) ≡ m = length-take-le m xs within in
    let all : one ≡ take m xs ++ (cut ++ drop m xs) = p ∙ append_assoc (take m xs) cut (drop m xs) in
    let front : take n one ≡ take n xs =
    ap (take n) all ∙ take-append-le n (take m xs) (cut ++ drop m xs) (omega arith) ∙ sym (take-append-le n (take m xs) (drop m xs) (omega arith)) ∙ ap (take n) (take-append-drop m xs) in
    let back : drop (n + k) one ≡ cut ++ drop m xs =
    ap (λ d. drop d one) (t ∙ sym long) ∙ ap (drop (length (take m xs))) all ∙ drop-append_seam (take m xs) (cut ++ drop m xs) in
    q ∙ (λ i. front i ++ back i)
