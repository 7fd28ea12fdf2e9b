-- The piece that has a key, and those that have keys of a range, by halving.
use Rattle.std.proofs.Common.{◌≡◌, ℕ, zero, suc, ◌+◌, ◌<◌, ◌≤◌, Bool, true, false, not, ◌&&◌, cond, List, [], ◌∷◌, ◌++◌, length, get_or, take, drop, Option, Some, None, refl, sym, ap, ◌∙◌, subst, arith}
use Rattle.std.specs.List.{prefix_len, slice_get, AllByRecursion}
use Rattle.std.proofs.lemmas.Bool.{cond-true, cond-false}
use Rattle.std.proofs.lemmas.Option.{slice_get_read}
use Rattle.fb_bytes.proofs.Halving.{Falls}
use Rattle.fb_bytes.specs.Bytes.{Bytes, is_below}
use Rattle.fb_bytes.specs.declared.KeyRange.{KeyRange}
use Rattle.fb_bytes.specs.Keys.{holds, is_backwards}
use Rattle.fb_bytes.proofs.Order.{not_both, below_trans, below_up, below_down, below_itself, below_not_back}
use Rattle.version_map.specs.Pieces.{Piece, version_at, ArePieces}
pub use Rattle.version_map.specs.inner.Pieces.{is_past, is_begun}
use Rattle.version_map.specs.Parts.{part_of, parts_between, within}
use Rattle.version_map.proofs.Held.{by_test, not_false}
use Rattle.version_map.proofs.Cuts.{AreFrom, all_from, none_before, at_or_past}
use Rattle.version_map.proofs.Parts.{begins_from, ends_upto}

-- ---- a search by halving

one_first : (n : ℕ) → suc n ≡ 1 + n
one_first n = omega arith

-- how many stand in front, where the first passes and where it doesn't
pub counted : {A : Type 0} (p : A → Bool) (x : A) (xs : List A) → p x ≡ true → prefix_len p (x ∷ xs) ≡ suc (prefix_len p xs)
counted p x xs e = cond-true (p x) (1 + prefix_len p xs) 0 e ∙ sym (one_first (prefix_len p xs))

pub uncounted : {A : Type 0} (p : A → Bool) (x : A) (xs : List A) → p x ≡ false → prefix_len p (x ∷ xs) ≡ 0
uncounted p x xs e = cond-false (p x) (1 + prefix_len p xs) 0 e

-- ---- pieces in order

ends_past : (key end : Bytes) (xs : List Piece) → is_below key end ≡ true → AreFrom end xs → ArePieces xs → AllByRecursion (λ y. is_past key y ≡ false) xs
ends_past key end [] b h l = tt
ends_past key end (y ∷ ys) b h l = (ap not (below_trans key y.range.begin y.range.end (below_up key y.range.begin end b h.0) l.0), ends_past key end ys b h.1 l.2)

pub past_falls : (key : Bytes) (xs : List Piece) → ArePieces xs → Falls (is_past key) xs
past_falls key [] h = tt
past_falls key (x ∷ xs) h = (λ e. ends_past key x.range.end xs (not_false (is_below key x.range.end) e) (all_from x.range.end xs h.2 h.1) h.2, past_falls key xs h.2)

all_not_begun : (key begin end : Bytes) (xs : List Piece) → is_below begin end ≡ true → is_below begin key ≡ false → AreFrom end xs → AllByRecursion (λ y. is_begun key y ≡ false) xs
all_not_begun key begin end [] p f h = tt
all_not_begun key begin end (y ∷ ys) p f h = (go (is_below y.range.begin key) refl, all_not_begun key begin end ys p f h.1)
  where
    go : (t : Bool) → is_below y.range.begin key ≡ t → is_below y.range.begin key ≡ false
    go false e = e
    go true e = not_both (below_trans begin end key p (below_down end y.range.begin key h.0 e)) f

pub begun_falls : (key : Bytes) (xs : List Piece) → ArePieces xs → Falls (is_begun key) xs
begun_falls key [] h = tt
begun_falls key (x ∷ xs) h = (λ e. all_not_begun key x.range.begin x.range.end xs h.0 e (all_from x.range.end xs h.2 h.1), begun_falls key xs h.2)

pub pieces_drop : (n : ℕ) (xs : List Piece) → ArePieces xs → ArePieces (drop n xs)
pieces_drop zero [] h = tt
pieces_drop (suc n) [] h = tt
pieces_drop zero (x ∷ xs) h = h
pieces_drop (suc n) (x ∷ xs) h = pieces_drop n xs h.2

-- ---- the piece that has a key

and_false : (b : Bool) → (b && false) ≡ false
and_false true = refl
and_false false = refl

-- what a piece, if there is one, says of a key
abbrev pub version_of : Bytes → Option Piece → Option ℕ
version_of key None = None
version_of key (Some piece) = cond (holds piece.range key) (Some piece.version) None

version_there : (key : Bytes) (xs : List Piece) → ArePieces xs → version_at xs key ≡ version_of key (slice_get xs (prefix_len (is_past key) xs))
version_there key [] h = refl
version_there key (x ∷ xs) h = go (is_below key x.range.end) refl (version_there key xs h.2)
  where
    go : (b : Bool) → is_below key x.range.end ≡ b → version_at xs key ≡ version_of key (slice_get xs (prefix_len (is_past key) xs)) → version_at (x ∷ xs) key ≡ version_of key (slice_get (x ∷ xs) (prefix_len (is_past key) (x ∷ xs)))
    go true e ih =
        ap (λ v. cond (holds x.range key) (Some x.version) v) (none_before x.range.end xs key (all_from x.range.end xs h.2 h.1) e)
        ∙ sym (ap (λ n. version_of key (slice_get (x ∷ xs) n)) (uncounted (is_past key) x xs (ap not e)))
    go false e ih =
        ap (λ t. cond t (Some x.version) (version_at xs key)) (ap (λ t. not (is_below key x.range.begin) && t) e ∙ and_false (not (is_below key x.range.begin)))
        ∙ ih
        ∙ sym (ap (λ n. version_of key (slice_get (x ∷ xs) n)) (counted (is_past key) x xs (ap not e)))

get_past : (xs : List Piece) (n : ℕ) → length xs ≤ n → slice_get xs n ≡ None
get_past [] n h = refl
get_past (x ∷ xs) zero h = absurd (omega arith)
get_past (x ∷ xs) (suc n) h = get_past xs n (omega arith)

pub none_found : (xs : List Piece) (key : Bytes) (n : ℕ) → ArePieces xs → n ≡ prefix_len (is_past key) xs → length xs ≤ n → None ≡ version_at xs key
none_found xs key n h e le = sym (version_there key xs h ∙ ap (λ m. version_of key (slice_get xs m)) (sym e) ∙ ap (version_of key) (get_past xs n le))

pub found_at : (xs : List Piece) (key : Bytes) (n : ℕ) (x : Piece) (b : Bool) → ArePieces xs → n ≡ prefix_len (is_past key) xs → n < length xs → x ≡ get_or xs n x → b ≡ holds x.range key → cond b (Some x.version) None ≡ version_at xs key
found_at xs key n x b h e lt is held =
    ap (λ t. cond t (Some x.version) None) held
    ∙ sym (version_there key xs h ∙ ap (λ m. version_of key (slice_get xs m)) (sym e) ∙ ap (version_of key) (slice_get_read xs (length xs) n x refl lt is))

-- ---- the pieces that have keys of a range

-- a piece has none of the keys from begin on and before end
skipped : (begin end : Bytes) (x : Piece) (xs : List Piece) → is_backwards (within begin end x.range) ≡ true → parts_between begin end (x ∷ xs) ≡ parts_between begin end xs
skipped begin end x xs h =
    let own = within begin end x.range in
    ap (λ t. cond t (parts_between begin end xs) (part_of begin own.begin None ++ (record { range = own; version = Some x.version } ∷ parts_between own.end end xs))) h

-- the own keys end no later than the piece, and begin no earlier
ends_in : (begin end : Bytes) (r : KeyRange) → is_below r.end (within begin end r).end ≡ false
ends_in begin end r = by_test (is_below end r.end) (λ z. is_below r.end z ≡ false) end r.end (λ e. below_not_back end r.end e) (λ e. below_itself r.end)

begins_in : (begin end : Bytes) (r : KeyRange) → is_below (within begin end r).begin r.begin ≡ false
begins_in begin end r = by_test (is_below r.begin begin) (λ z. is_below z r.begin ≡ false) begin r.begin (λ e. below_not_back r.begin begin e) (λ e. below_itself r.begin)

past_own : (begin end : Bytes) (r : KeyRange) → is_below begin r.end ≡ false → is_backwards (within begin end r) ≡ true
past_own begin end r h =
    let own = within begin end r in
    ap not (at_or_past own.begin begin own.end (begins_from begin end r) (at_or_past begin r.end own.end h (ends_in begin end r)))

behind_own : (begin end : Bytes) (r : KeyRange) → is_below r.begin end ≡ false → is_backwards (within begin end r) ≡ true
behind_own begin end r h =
    let own = within begin end r in
    ap not (at_or_past own.begin r.begin own.end (begins_in begin end r) (at_or_past r.begin end own.end h (ends_upto begin end r)))

drop_parts : (begin end : Bytes) (xs : List Piece) → parts_between begin end (drop (prefix_len (is_past begin) xs) xs) ≡ parts_between begin end xs
drop_parts begin end [] = refl
drop_parts begin end (x ∷ xs) = go (is_below begin x.range.end) refl (drop_parts begin end xs)
  where
    go : (t : Bool) → is_below begin x.range.end ≡ t → parts_between begin end (drop (prefix_len (is_past begin) xs) xs) ≡ parts_between begin end xs → parts_between begin end (drop (prefix_len (is_past begin) (x ∷ xs)) (x ∷ xs)) ≡ parts_between begin end (x ∷ xs)
    go true e ih = ap (λ n. parts_between begin end (drop n (x ∷ xs))) (uncounted (is_past begin) x xs (ap not e))
    go false e ih = ap (λ n. parts_between begin end (drop n (x ∷ xs))) (counted (is_past begin) x xs (ap not e)) ∙ ih ∙ sym (skipped begin end x xs (past_own begin end x.range e))

none_of : (begin end : Bytes) (xs : List Piece) → AreFrom end xs → parts_between begin end xs ≡ part_of begin end None
none_of begin end [] h = refl
none_of begin end (x ∷ xs) h = skipped begin end x xs (behind_own begin end x.range h.0) ∙ none_of begin end xs h.1

take_parts : (begin end : Bytes) (xs : List Piece) → ArePieces xs → parts_between begin end (take (prefix_len (is_begun end) xs) xs) ≡ parts_between begin end xs
take_parts begin end [] h = refl
take_parts begin end (x ∷ xs) h = go (is_below x.range.begin end) refl (λ from. take_parts from end xs h.2)
  where
    own : KeyRange
    own = within begin end x.range

    go : (t : Bool) → is_below x.range.begin end ≡ t → ((from : Bytes) → parts_between from end (take (prefix_len (is_begun end) xs) xs) ≡ parts_between from end xs) → parts_between begin end (take (prefix_len (is_begun end) (x ∷ xs)) (x ∷ xs)) ≡ parts_between begin end (x ∷ xs)
    go true e ih =
        ap (λ n. parts_between begin end (take n (x ∷ xs))) (counted (is_begun end) x xs e)
        ∙ (λ i. cond (is_backwards own) (ih begin i) (part_of begin own.begin None ++ (record { range = own; version = Some x.version } ∷ ih own.end i)))
    go false e ih =
        ap (λ n. parts_between begin end (take n (x ∷ xs))) (uncounted (is_begun end) x xs e)
        ∙ sym (none_of begin end (x ∷ xs) (all_from end (x ∷ xs) h e))

pub among_all : (begin end : Bytes) (xs ys zs : List Piece) (n m : ℕ) → ArePieces xs → n ≡ prefix_len (is_past begin) xs → ys ≡ drop n xs → m ≡ prefix_len (is_begun end) ys → zs ≡ take m ys → parts_between begin end zs ≡ parts_between begin end xs
among_all begin end xs ys zs n m h p e q f =
    ap (parts_between begin end) (f ∙ ap (λ k. take k ys) q)
    ∙ take_parts begin end ys (subst ArePieces (sym e) (pieces_drop n xs h))
    ∙ ap (parts_between begin end) (e ∙ ap (λ k. drop k xs) p)
    ∙ drop_parts begin end xs
