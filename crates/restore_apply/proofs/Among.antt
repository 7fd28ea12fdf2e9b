-- Pieces in a line: the one that holds a key, and those that have keys of a range.
use Rattle.std.proofs.Common.{◌≡◌, ℕ, zero, suc, ◌+◌, ◌<◌, ◌≤◌, Bool, true, false, not, ◌&&◌, ◌||◌, cond, List, [], ◌∷◌, length, get_or, take, drop, Option, Some, None, Result, Ok, Err, OnOk, refl, sym, ap, ◌∙◌, subst, nat_lt, arith}
use Rattle.std.specs.List.{prefix_len, slice_get, AllByRecursion}
use Rattle.std.proofs.lemmas.Bool.{cond-true, cond-false}
use Rattle.fb_bytes.proofs.Halving.{Falls}
use Rattle.fb_bytes.specs.Bytes.{Bytes, is_below}
use Rattle.fb_bytes.specs.declared.KeyRange.{KeyRange}
use Rattle.fb_bytes.specs.Keys.{holds, is_backwards}
use Rattle.fb_bytes.proofs.Order.{below_trans, below_up, below_down}
use Rattle.mutations.proofs.Basics.{not_both, not_false}
use Rattle.mutations.proofs.Intersections.{holds_common}
use Rattle.mutations.specs.Effects.{range_of, later, earlier}
use Rattle.restore_apply.specs.inner.Pieces.{Piece, since, AreLine, is_older, older_has, cleared}

-- ---- a search by halving

one_first : (n : ℕ) → suc n ≡ 1 + n
one_first n = omega arith

pub on_ok : {A E : Type 0} {P Q : Type 0} (r : Result A E) → (P → Q) → OnOk r P → OnOk r Q
on_ok (Ok x) f h = f h
on_ok (Err e) f h = tt

-- ---- a line

proper : (range : KeyRange) → is_backwards range ≡ false → is_below range.begin range.end ≡ true
proper range h = not_false (is_below range.begin range.end) h

-- the key is at the end of the piece or past it
abbrev pub is_past : Bytes → Piece → Bool
is_past key piece = not (is_below key piece.range.end)

-- the piece begins below the key
abbrev pub is_begun : Bytes → Piece → Bool
is_begun key piece = is_below piece.range.begin key

ends_past : (key end : Bytes) (xs : List Piece) → is_below key end ≡ true → AllByRecursion (λ y. is_below y.range.begin end ≡ false) xs → AreLine xs → AllByRecursion (λ y. is_past key y ≡ false) xs
ends_past key end [] b h l = tt
ends_past key end (y ∷ ys) b h l = (ap not (below_trans key y.range.begin y.range.end (below_up key y.range.begin end b h.0) (proper y.range l.0)), ends_past key end ys b h.1 l.2)

pub past_falls : (key : Bytes) (xs : List Piece) → AreLine xs → Falls (is_past key) xs
past_falls key [] h = tt
past_falls key (x ∷ xs) h = (λ e. ends_past key x.range.end xs (not_false (is_below key x.range.end) e) h.1 h.2, past_falls key xs h.2)

not_begun : (key begin end b : Bytes) → is_below begin end ≡ true → is_below begin key ≡ false → is_below b end ≡ false → is_below b key ≡ false
not_begun key begin end b p f h = go (is_below b key) refl
  where
    go : (t : Bool) → is_below b key ≡ t → is_below b key ≡ false
    go false e = e
    go true e = not_both (below_trans begin end key p (below_down end b key h e)) f

all_not_begun : (key begin end : Bytes) (xs : List Piece) → is_below begin end ≡ true → is_below begin key ≡ false → AllByRecursion (λ y. is_below y.range.begin end ≡ false) xs → AllByRecursion (λ y. is_begun key y ≡ false) xs
all_not_begun key begin end [] p f h = tt
all_not_begun key begin end (y ∷ ys) p f h = (not_begun key begin end y.range.begin p f h.0, all_not_begun key begin end ys p f h.1)

pub begun_falls : (key : Bytes) (xs : List Piece) → AreLine xs → Falls (is_begun key) xs
begun_falls key [] h = tt
begun_falls key (x ∷ xs) h = (λ e. all_not_begun key x.range.begin x.range.end xs (proper x.range h.0) e h.1, begun_falls key xs h.2)

pub line_drop : (n : ℕ) (xs : List Piece) → AreLine xs → AreLine (drop n xs)
line_drop zero [] h = tt
line_drop (suc n) [] h = tt
line_drop zero (x ∷ xs) h = h
line_drop (suc n) (x ∷ xs) h = line_drop n xs h.2

-- ---- what no piece holds

and_false : (b : Bool) → (b && false) ≡ false
and_false true = refl
and_false false = refl

or_false : (b : Bool) → (b || false) ≡ b
or_false true = refl
or_false false = refl

and_true : (b : Bool) → (b && true) ≡ b
and_true true = refl
and_true false = refl

held_not_before : (range : KeyRange) (key : Bytes) → is_below key range.begin ≡ true → holds range key ≡ false
held_not_before range key h = ap (λ t. not t && is_below key range.end) h

held_not_past : (range : KeyRange) (key : Bytes) → is_below key range.end ≡ false → holds range key ≡ false
held_not_past range key h = ap (λ t. not (is_below key range.begin) && t) h ∙ and_false (not (is_below key range.begin))

none_has : (version : ℕ) (end key : Bytes) (xs : List Piece) → is_below key end ≡ true → AllByRecursion (λ y. is_below y.range.begin end ≡ false) xs → older_has version xs key ≡ false
none_has version end key [] b h = refl
none_has version end key (y ∷ ys) b h =
    ap (λ t. (nat_lt y.version version && t) || older_has version ys key) (held_not_before y.range key (below_up key y.range.begin end b h.0))
    ∙ ap (λ t. t || older_has version ys key) (and_false (nat_lt y.version version))
    ∙ none_has version end key ys b h.1

none_since : (end key : Bytes) (xs : List Piece) → is_below key end ≡ true → AllByRecursion (λ y. is_below y.range.begin end ≡ false) xs → since xs key ≡ None
none_since end key [] b h = refl
none_since end key (y ∷ ys) b h =
    ap (λ t. cond t (Some y.version) (since ys key)) (held_not_before y.range key (below_up key y.range.begin end b h.0))
    ∙ none_since end key ys b h.1

held_before_end : (range : KeyRange) (key : Bytes) → holds range key ≡ true → is_below key range.end ≡ true
held_before_end range key h = go (is_below key range.end) refl
  where
    go : (b : Bool) → is_below key range.end ≡ b → is_below key range.end ≡ true
    go true e = e
    go false e = not_both h (held_not_past range key e)

-- ---- the piece that holds a key

pub has_since : (version : ℕ) (xs : List Piece) (key : Bytes) → AreLine xs → older_has version xs key ≡ is_older (since xs key) version
has_since version [] key h = refl
has_since version (x ∷ xs) key h = go (holds x.range key) refl (has_since version xs key h.2)
  where
    go : (b : Bool) → holds x.range key ≡ b → older_has version xs key ≡ is_older (since xs key) version → older_has version (x ∷ xs) key ≡ is_older (since (x ∷ xs) key) version
    go true e ih =
        let rest = none_has version x.range.end key xs (held_before_end x.range key e) h.1 in
        rw e (ap (λ t. (nat_lt x.version version && true) || t) rest ∙ or_false (nat_lt x.version version && true) ∙ and_true (nat_lt x.version version))
    go false e ih = rw e (ap (λ t. t || older_has version xs key) (and_false (nat_lt x.version version)) ∙ ih)

-- what a piece, if there is one, says of a key
abbrev pub since_in : Bytes → Option Piece → Option ℕ
since_in key None = None
since_in key (Some piece) = cond (holds piece.range key) (Some piece.version) None

one_more : (n : ℕ) → 1 + n ≡ suc n
one_more n = omega arith

pub since_there : (key : Bytes) (xs : List Piece) → AreLine xs → since xs key ≡ since_in key (slice_get xs (prefix_len (is_past key) xs))
since_there key [] h = refl
since_there key (x ∷ xs) h = go (is_below key x.range.end) refl (since_there key xs h.2)
  where
    go : (b : Bool) → is_below key x.range.end ≡ b → since xs key ≡ since_in key (slice_get xs (prefix_len (is_past key) xs)) → since (x ∷ xs) key ≡ since_in key (slice_get (x ∷ xs) (prefix_len (is_past key) (x ∷ xs)))
    go true e ih =
        ap (λ v. cond (holds x.range key) (Some x.version) v) (none_since x.range.end key xs e h.1)
        ∙ sym (ap (λ n. since_in key (slice_get (x ∷ xs) n)) (cond-false (is_past key x) (1 + prefix_len (is_past key) xs) 0 (ap not e)))
    go false e ih =
        ap (λ t. cond t (Some x.version) (since xs key)) (held_not_past x.range key e) ∙ ih
        ∙ sym (ap (λ n. since_in key (slice_get (x ∷ xs) n)) (cond-true (is_past key x) (1 + prefix_len (is_past key) xs) 0 (ap not e) ∙ one_more (prefix_len (is_past key) xs)))

get_past : (xs : List Piece) (n : ℕ) → length xs ≤ n → slice_get xs n ≡ None
get_past [] n h = refl
get_past (x ∷ xs) zero h = absurd (omega arith)
get_past (x ∷ xs) (suc n) h = get_past xs n (omega arith)

get_at : (xs : List Piece) (n : ℕ) (x : Piece) → n < length xs → x ≡ get_or xs n x → slice_get xs n ≡ Some x
get_at [] n x lt e = absurd (omega arith)
get_at (y ∷ ys) zero x lt e = ap Some (sym e)
get_at (y ∷ ys) (suc n) x lt e = get_at ys n x (omega arith) e

pub older_none : (xs : List Piece) (key : Bytes) (version n : ℕ) → AreLine xs → n ≡ prefix_len (is_past key) xs → length xs ≤ n → false ≡ is_older (since xs key) version
older_none xs key version n h e le =
    sym (ap (λ o. is_older o version) (since_there key xs h ∙ ap (λ m. since_in key (slice_get xs m)) (sym e) ∙ ap (since_in key) (get_past xs n le)))

older_in : (key : Bytes) (version : ℕ) (x : Piece) (b : Bool) → holds x.range key ≡ b → (b && nat_lt x.version version) ≡ is_older (since_in key (Some x)) version
older_in key version x true e = rw e refl
older_in key version x false e = rw e refl

pub older_there : (xs : List Piece) (key : Bytes) (version n : ℕ) (x : Piece) → AreLine xs → n ≡ prefix_len (is_past key) xs → n < length xs → x ≡ get_or xs n x → (holds x.range key && nat_lt x.version version) ≡ is_older (since xs key) version
older_there xs key version n x h e lt is =
    older_in key version x (holds x.range key) refl
    ∙ sym (ap (λ o. is_older o version) (since_there key xs h ∙ ap (λ m. since_in key (slice_get xs m)) (sym e) ∙ ap (since_in key) (get_at xs n x lt is)))

-- ---- the pieces that have keys of a range

pub drop_past : (version : ℕ) (begin key : Bytes) (xs : List Piece) → is_below key begin ≡ false → older_has version (drop (prefix_len (is_past begin) xs) xs) key ≡ older_has version xs key
drop_past version begin key [] b = refl
drop_past version begin key (x ∷ xs) b = go (is_below begin x.range.end) refl (drop_past version begin key xs b)
  where
    over : is_below begin x.range.end ≡ false → (t : Bool) → is_below key x.range.end ≡ t → is_below key x.range.end ≡ false
    over e false f = f
    over e true f = not_both (below_down begin key x.range.end b f) e

    go : (t : Bool) → is_below begin x.range.end ≡ t → older_has version (drop (prefix_len (is_past begin) xs) xs) key ≡ older_has version xs key → older_has version (drop (prefix_len (is_past begin) (x ∷ xs)) (x ∷ xs)) key ≡ older_has version (x ∷ xs) key
    go true e ih = ap (λ n. older_has version (drop n (x ∷ xs)) key) (cond-false (is_past begin x) (1 + prefix_len (is_past begin) xs) 0 (ap not e))
    go false e ih =
        ap (λ n. older_has version (drop n (x ∷ xs)) key) (cond-true (is_past begin x) (1 + prefix_len (is_past begin) xs) 0 (ap not e) ∙ one_more (prefix_len (is_past begin) xs))
        ∙ ih
        ∙ sym (ap (λ t. (nat_lt x.version version && t) || older_has version xs key) (held_not_past x.range key (over e (is_below key x.range.end) refl))
        ∙ ap (λ t. t || older_has version xs key) (and_false (nat_lt x.version version)))

pub take_begun : (version : ℕ) (end key : Bytes) (xs : List Piece) → AreLine xs → is_below key end ≡ true → older_has version (take (prefix_len (is_begun end) xs) xs) key ≡ older_has version xs key
take_begun version end key [] h b = refl
take_begun version end key (x ∷ xs) h b = go (is_below x.range.begin end) refl (take_begun version end key xs h.2 b)
  where
    go : (t : Bool) → is_below x.range.begin end ≡ t → older_has version (take (prefix_len (is_begun end) xs) xs) key ≡ older_has version xs key → older_has version (take (prefix_len (is_begun end) (x ∷ xs)) (x ∷ xs)) key ≡ older_has version (x ∷ xs) key
    go true e ih =
        ap (λ n. older_has version (take n (x ∷ xs)) key) (cond-true (is_begun end x) (1 + prefix_len (is_begun end) xs) 0 e ∙ one_more (prefix_len (is_begun end) xs))
        ∙ ap (λ t. (nat_lt x.version version && holds x.range key) || t) ih
    go false e ih =
        let before : is_below key x.range.begin ≡ true = below_up key x.range.begin end b e in
        ap (λ n. older_has version (take n (x ∷ xs)) key) (cond-false (is_begun end x) (1 + prefix_len (is_begun end) xs) 0 e)
        ∙ sym (ap (λ t. (nat_lt x.version version && t) || older_has version xs key) (held_not_before x.range key before)
        ∙ ap (λ t. t || older_has version xs key) (and_false (nat_lt x.version version))
        ∙ none_has version x.range.end key xs (below_trans key x.range.begin x.range.end before (proper x.range h.0)) h.1)

held_from_begin : (range : KeyRange) (key : Bytes) → holds range key ≡ true → is_below key range.begin ≡ false
held_from_begin range key h = go (is_below key range.begin) refl
  where
    go : (b : Bool) → is_below key range.begin ≡ b → is_below key range.begin ≡ false
    go false e = e
    go true e = not_both h (held_not_before range key e)

pub among_all : (version : ℕ) (begin end key : Bytes) (xs ys zs : List Piece) (n m : ℕ) → AreLine xs → holds (range_of begin end) key ≡ true
    → n ≡ prefix_len (is_past begin) xs → ys ≡ drop n xs → m ≡ prefix_len (is_begun end) ys → zs ≡ take m ys → older_has version zs key ≡ is_older (since xs key) version
among_all version begin end key xs ys zs n m h held p e q f =
    ap (λ ps. older_has version ps key) (f ∙ ap (λ k. take k ys) q)
    ∙ take_begun version end key ys (subst AreLine (sym e) (line_drop n xs h)) (held_before_end (range_of begin end) key held)
    ∙ ap (λ ps. older_has version ps key) (e ∙ ap (λ k. drop k xs) p)
    ∙ drop_past version begin key xs (held_from_begin (range_of begin end) key held)
    ∙ has_since version xs key h

-- ---- a range that is cleared in each older piece

cond_or : {X : Type 0} (a o r : Bool) (n v : X) → cond (o && r) n (cond (a && r) n v) ≡ cond ((a || o) && r) n v
cond_or true true true n v = refl
cond_or true true false n v = refl
cond_or true false true n v = refl
cond_or true false false n v = refl
cond_or false true true n v = refl
cond_or false true false n v = refl
cond_or false false true n v = refl
cond_or false false false n v = refl

pub cleared_is : (version : ℕ) (range : KeyRange) (xs : List Piece) (key : Bytes) (old : Option Bytes) → cleared version range xs key old ≡ cond (older_has version xs key && holds range key) None old
cleared_is version range [] key old = refl
cleared_is version range (x ∷ xs) key old =
    let a = nat_lt x.version version && holds x.range key in
    cleared_is version range xs key (cond (a && holds range key) None old)
    ∙ cond_or a (older_has version xs key) (holds range key) None old

pub told_clear : (version : ℕ) (range : KeyRange) (among xs : List Piece) (key : Bytes) (old new : Option Bytes)
    → (holds range key ≡ true → older_has version among key ≡ is_older (since xs key) version)
    → new ≡ cleared version range among key old → new ≡ cond (is_older (since xs key) version && holds range key) None old
told_clear version range among xs key old new h e = e ∙ cleared_is version range among key old ∙ go (holds range key) refl
  where
    go : (b : Bool) → holds range key ≡ b → cond (older_has version among key && holds range key) None old ≡ cond (is_older (since xs key) version && holds range key) None old
    go true t = ap (λ s. cond (s && holds range key) None old) (h t)
    go false f = ap (λ s. cond (older_has version among key && s) None old) f
        ∙ ap (λ s. cond s None old) (and_false (older_has version among key) ∙ sym (and_false (is_older (since xs key) version)))
        ∙ sym (ap (λ s. cond (is_older (since xs key) version && s) None old) f)

pub not_older : (version w : ℕ) (h r : Bool) (old : Option Bytes) → version ≤ w → old ≡ cond ((nat_lt w version && h) && r) None old
not_older version w h r old le = let f : nat_lt w version ≡ false = grind arith in rw f refl

pub cleared_in : (piece : Piece) (version : ℕ) (begin end b e key : Bytes) (old new : Option Bytes) → piece.version < version
    → b ≡ later begin piece.range.begin → e ≡ earlier end piece.range.end
    → new ≡ cond (holds (range_of b e) key) None old → new ≡ cond ((nat_lt piece.version version && holds piece.range key) && holds (range_of begin end) key) None old
cleared_in piece version begin end b e key old new lt p q h =
    let t : nat_lt piece.version version ≡ true = grind arith in
    h ∙ ap (λ z. cond (holds (range_of z e) key) None old) p ∙ ap (λ z. cond (holds (range_of (later begin piece.range.begin) z) key) None old) q
    ∙ ap (λ z. cond z None old) (holds_common (range_of begin end) piece.range key ∙ swap (holds (range_of begin end) key) (holds piece.range key) ∙ sym (ap (λ z. (z && holds piece.range key) && holds (range_of begin end) key) t))
  where
    swap : (x y : Bool) → (x && y) ≡ (y && x)
    swap true true = refl
    swap true false = refl
    swap false true = refl
    swap false false = refl
