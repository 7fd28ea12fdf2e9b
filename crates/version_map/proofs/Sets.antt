-- What a set changes at each key, and how pieces stay in order.
use Rattle.std.proofs.Common.{◌≡◌, ℕ, Bool, true, false, not, ◌&&◌, cond, refl, sym, ap, ◌∙◌, List, [], ◌∷◌, ◌++◌, Option, Some, None, flat_map}
use Rattle.fb_bytes.specs.Bytes.{Bytes, is_below}
use Rattle.fb_bytes.specs.declared.KeyRange.{KeyRange}
use Rattle.fb_bytes.specs.Keys.{holds, is_backwards}
use Rattle.fb_bytes.proofs.Order.{below_trans}
use Rattle.version_map.specs.Pieces.{Piece, version_at, with_set, front_of, back_of, piece_of, keys_before, keys_from}
use Rattle.version_map.specs.Laws.{SetLaw, LastSetLaw, after_sets, last_set}
use Rattle.version_map.proofs.Held.{by_test, not_false, holds_before, holds_from, holds_backwards}

-- the first of two lookups that finds something
abbrev or_else : Option ℕ → Option ℕ → Option ℕ
or_else None other = other
or_else (Some v) other = Some v

version_append : (xs ys : List Piece) (key : Bytes) → version_at (xs ++ ys) key ≡ or_else (version_at xs key) (version_at ys key)
version_append [] ys key = refl
version_append (x ∷ xs) ys key = go (holds x.range key) (version_append xs ys key)
  where
    go : (b : Bool) → version_at (xs ++ ys) key ≡ or_else (version_at xs key) (version_at ys key) → cond b (Some x.version) (version_at (xs ++ ys) key) ≡ or_else (cond b (Some x.version) (version_at xs key)) (version_at ys key)
    go true ih = refl
    go false ih = ih

-- one piece that is empty or not says what its range says
one_piece : (range : KeyRange) (version : ℕ) (rest : List Piece) (key : Bytes) → version_at (piece_of range version ++ rest) key ≡ cond (holds range key) (Some version) (version_at rest key)
one_piece range version rest key = by_test (is_backwards range) (λ z. version_at (z ++ rest) key ≡ cond (holds range key) (Some version) (version_at rest key)) [] (record { range = range; version = version } ∷ [])
    (λ h. sym (ap (λ b. cond b (Some version) (version_at rest key)) (holds_backwards range key h)))
    (λ h. refl)

-- cut pieces give what the whole ones give at a key where the cut leaves everything, and nothing where it leaves nothing
fronts_below : (k : Bytes) (pieces : List Piece) (key : Bytes) → is_below key k ≡ true → version_at (flat_map (front_of k) pieces) key ≡ version_at pieces key
fronts_below k [] key h = refl
fronts_below k (p ∷ ps) key h =
    one_piece (keys_before k p.range) p.version (flat_map (front_of k) ps) key
    ∙ ap (λ b. cond b (Some p.version) (version_at (flat_map (front_of k) ps) key)) (holds_before k p.range key ∙ ap (λ b. holds p.range key && b) h ∙ and_true (holds p.range key))
    ∙ ap (λ o. cond (holds p.range key) (Some p.version) o) (fronts_below k ps key h)
  where
    and_true : (b : Bool) → (b && true) ≡ b
    and_true true = refl
    and_true false = refl

fronts_above : (k : Bytes) (pieces : List Piece) (key : Bytes) → is_below key k ≡ false → version_at (flat_map (front_of k) pieces) key ≡ None
fronts_above k [] key h = refl
fronts_above k (p ∷ ps) key h =
    one_piece (keys_before k p.range) p.version (flat_map (front_of k) ps) key
    ∙ ap (λ b. cond b (Some p.version) (version_at (flat_map (front_of k) ps) key)) (holds_before k p.range key ∙ ap (λ b. holds p.range key && b) h ∙ and_false (holds p.range key))
    ∙ fronts_above k ps key h
  where
    and_false : (b : Bool) → (b && false) ≡ false
    and_false true = refl
    and_false false = refl

backs_above : (k : Bytes) (pieces : List Piece) (key : Bytes) → is_below key k ≡ false → version_at (flat_map (back_of k) pieces) key ≡ version_at pieces key
backs_above k [] key h = refl
backs_above k (p ∷ ps) key h =
    one_piece (keys_from k p.range) p.version (flat_map (back_of k) ps) key
    ∙ ap (λ b. cond b (Some p.version) (version_at (flat_map (back_of k) ps) key)) (holds_from k p.range key ∙ ap (λ b. holds p.range key && not b) h ∙ and_true (holds p.range key))
    ∙ ap (λ o. cond (holds p.range key) (Some p.version) o) (backs_above k ps key h)
  where
    and_true : (b : Bool) → (b && true) ≡ b
    and_true true = refl
    and_true false = refl

backs_below : (k : Bytes) (pieces : List Piece) (key : Bytes) → is_below key k ≡ true → version_at (flat_map (back_of k) pieces) key ≡ None
backs_below k [] key h = refl
backs_below k (p ∷ ps) key h =
    one_piece (keys_from k p.range) p.version (flat_map (back_of k) ps) key
    ∙ ap (λ b. cond b (Some p.version) (version_at (flat_map (back_of k) ps) key)) (holds_from k p.range key ∙ ap (λ b. holds p.range key && not b) h ∙ and_false (holds p.range key))
    ∙ backs_below k ps key h
  where
    and_false : (b : Bool) → (b && false) ≡ false
    and_false true = refl
    and_false false = refl

set_inside : (range : KeyRange) (version : ℕ) (pieces : List Piece) (key : Bytes) → is_below range.begin range.end ≡ true
    → or_else (version_at (flat_map (front_of range.begin) pieces) key) (cond (holds range key) (Some version) (version_at (flat_map (back_of range.end) pieces) key)) ≡ cond (holds range key) (Some version) (version_at pieces key)
set_inside range version pieces key h = go (is_below key range.begin) (is_below key range.end) refl refl
  where
    goal : Bool → Type 0
    goal b = or_else (version_at (flat_map (front_of range.begin) pieces) key) (cond b (Some version) (version_at (flat_map (back_of range.end) pieces) key)) ≡ cond b (Some version) (version_at pieces key)

    or_none : (o : Option ℕ) → or_else o None ≡ o
    or_none None = refl
    or_none (Some v) = refl

    go : (s t : Bool) → is_below key range.begin ≡ s → is_below key range.end ≡ t → or_else (version_at (flat_map (front_of range.begin) pieces) key) (cond (not s && t) (Some version) (version_at (flat_map (back_of range.end) pieces) key)) ≡ cond (not s && t) (Some version) (version_at pieces key)
    go true t p q = ap (or_else (version_at (flat_map (front_of range.begin) pieces) key)) (backs_below range.end pieces key (below_trans key range.begin range.end p h)) ∙ or_none _ ∙ fronts_below range.begin pieces key p
    go false true p q = ap (λ o. or_else o (Some version)) (fronts_above range.begin pieces key p)
    go false false p q = ap (λ o. or_else o (version_at (flat_map (back_of range.end) pieces) key)) (fronts_above range.begin pieces key p) ∙ backs_above range.end pieces key q

pub set_law : SetLaw
set_law range version pieces key = by_test (is_backwards range) (λ z. version_at z key ≡ cond (holds range key) (Some version) (version_at pieces key)) pieces (flat_map (front_of range.begin) pieces ++ record { range = range; version = version } ∷ flat_map (back_of range.end) pieces)
    (λ h. sym (ap (λ b. cond b (Some version) (version_at pieces key)) (holds_backwards range key h)))
    (λ h. version_append (flat_map (front_of range.begin) pieces) (record { range = range; version = version } ∷ flat_map (back_of range.end) pieces) key ∙ set_inside range version pieces key (not_false _ h))

-- the version at a key before the sets matters alone
sets_from : (sets pieces : List Piece) (key : Bytes) → version_at (after_sets sets pieces) key ≡ last_set sets key (version_at pieces key)
sets_from [] pieces key = refl
sets_from (s ∷ sets) pieces key = sets_from sets (with_set s.range s.version pieces) key ∙ ap (last_set sets key) (set_law s.range s.version pieces key)

pub last_set_law : LastSetLaw
last_set_law sets key = sets_from sets [] key
