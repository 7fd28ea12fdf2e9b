-- Ranges in the order of their begin keys, no two of which overlap.
use Rattle.std.proofs.Common.{◌≡◌, ℕ, suc, ◌+◌, ◌<◌, ◌≤◌, Bool, true, false, not, ◌&&◌, ◌||◌, cond, List, [], ◌∷◌, length, Option, Some, None, refl, sym, ap, ◌∙◌, subst, zero, ◌++◌, option_map, get_or, append_assoc, arith}
use Rattle.std.specs.List.{slice_get, AllByRecursion}
use Rattle.std.proofs.lemmas.List.{append-nil}
use Rattle.std.proofs.lemmas.Option.{slice_get_read}
use Rattle.fb_bytes.specs.Bytes.{Bytes, is_below}
use Rattle.fb_bytes.specs.declared.KeyRange.{KeyRange}
use Rattle.fb_bytes.specs.Keys.{holds, is_backwards}
use Rattle.fb_bytes.proofs.Order.{below_up, below_down, below_not_back}
use Rattle.mutations.proofs.Basics.{by_test, not_both, not_true, not_false, all_weaker}
use Rattle.mutations.proofs.Intersections.{holds_backwards}
use Rattle.restore_apply.specs.Loaded.{LoadedFile, range_of, file_with}
use Rattle.fb_bytes.specs.Keys.{overlaps}
use Rattle.restore_apply.specs.inner.Pieces.{Piece, since, piece_of, pieces_at, AreLine, ArePiecesOf}
use Rattle.restore_apply.specs.Overlaps.{At, overlaps_some, numbered, placed, in_order, first_overlap}
use Rattle.restore_apply.specs.inner.Overlaps.{AreOrdered}
use Rattle.restore_apply.proofs.Apart.{apart_all, some_in_order, apart_in_order, apart_numbered, overlap_law}

-- ---- tests

pub left : (a b : Bool) → (a && b) ≡ true → a ≡ true
left true b h = refl
left false b h = not_both h refl

pub right : (a b : Bool) → (a && b) ≡ true → b ≡ true
right true b h = h
right false b h = not_both h refl

pub not_left : (a b : Bool) → (a || b) ≡ false → a ≡ false
not_left true b h = not_both refl h
not_left false b h = refl

pub not_right : (a b : Bool) → (a || b) ≡ false → b ≡ false
not_right true b h = not_both refl h
not_right false b h = h

pub other : (a b : Bool) → (a && b) ≡ false → a ≡ true → b ≡ false
other true b h e = h
other false b h e = not_both e refl

-- ---- what a range holds

pub from_begin : (range : KeyRange) (key : Bytes) → holds range key ≡ true → is_below key range.begin ≡ false
from_begin range key h = not_true (is_below key range.begin) (left (not (is_below key range.begin)) (is_below key range.end) h)

pub before_end : (range : KeyRange) (key : Bytes) → holds range key ≡ true → is_below key range.end ≡ true
before_end range key h = right (not (is_below key range.begin)) (is_below key range.end) h

-- a key of both
common_key : (a b : KeyRange) (key : Bytes) → holds a key ≡ true → holds b key ≡ true → overlaps a b ≡ true
common_key a b key h g =
    let x = below_down a.begin key b.end (from_begin a key h) (before_end b key g) in
    let y = below_down b.begin key a.end (from_begin b key g) (before_end a key h) in
    rw (x, y) refl

pub held_once : (a b : KeyRange) (key : Bytes) → overlaps a b ≡ false → holds a key ≡ true → holds b key ≡ false
held_once a b key o h = go (holds b key) refl
  where
    go : (t : Bool) → holds b key ≡ t → holds b key ≡ false
    go true g = not_both (common_key a b key h g) o
    go false g = g

-- a range with keys, that begins no earlier and overlaps no key, begins at the end or past it
pub past : (a b : KeyRange) → is_below b.begin a.begin ≡ false → overlaps a b ≡ false → is_backwards b ≡ false → is_below b.begin a.end ≡ false
past a b o n p =
    other (is_below a.begin b.end) (is_below b.begin a.end) n (below_down a.begin b.begin b.end o (not_false (is_below b.begin b.end) p))

-- ---- in order

pub all_placed : (P : At → Type 0) (x : At) (xs : List At) → P x → AllByRecursion P xs → AllByRecursion P (placed x xs)
all_placed P x [] p h = (p, tt)
all_placed P x (y ∷ ys) p h = by_test (is_below y.range.begin x.range.begin) (AllByRecursion P) (y ∷ placed x ys) (x ∷ y ∷ ys) (λ e. (h.0, all_placed P x ys p h.1)) (λ e. (p, h))

pub all_in_order : (P : At → Type 0) (xs : List At) → AllByRecursion P xs → AllByRecursion P (in_order xs)
all_in_order P [] h = tt
all_in_order P (x ∷ xs) h = all_placed P x (in_order xs) h.0 (all_in_order P xs h.1)

pub not_below : (x y z : Bytes) → is_below z y ≡ false → is_below y x ≡ false → is_below z x ≡ false
not_below x y z h g = go (is_below z x) refl
  where
    go : (b : Bool) → is_below z x ≡ b → is_below z x ≡ false
    go true e = not_both (below_up z y x e g) h
    go false e = e

ordered_placed : (x : At) (xs : List At) → AreOrdered xs → AreOrdered (placed x xs)
ordered_placed x [] h = (tt, tt)
ordered_placed x (y ∷ ys) h = by_test (is_below y.range.begin x.range.begin) AreOrdered (y ∷ placed x ys) (x ∷ y ∷ ys)
    (λ e. (all_placed (λ (z : At). is_below z.range.begin y.range.begin ≡ false) x ys (below_not_back y.range.begin x.range.begin e) h.0, ordered_placed x ys h.1))
    (λ e. ((e, all_weaker (λ (z : At). is_below z.range.begin y.range.begin ≡ false) (λ (z : At). is_below z.range.begin x.range.begin ≡ false) (λ z n. not_below x.range.begin y.range.begin z.range.begin n e) ys h.0), h))

pub are_ordered : (xs : List At) → AreOrdered (in_order xs)
are_ordered [] = tt
are_ordered (x ∷ xs) = ordered_placed x (in_order xs) (are_ordered xs)

pub numbered_apart : (files : List LoadedFile) → first_overlap files ≡ None → apart_all (numbered 0 files) ≡ true
numbered_apart files h = apart_numbered 0 files ∙ (overlap_law files).0 h

-- ---- what they say

-- what the first whose range holds the key says of it
abbrev pub said : {X : Type 0} → (At → Option X) → List At → Bytes → Option X
said says [] key = None
said says (x ∷ xs) key = cond (holds x.range key) (says x) (said says xs key)

swap_tests : {X : Type 0} (p q : Bool) (a b c : X) → (p ≡ true → q ≡ false) → cond q b (cond p a c) ≡ cond p a (cond q b c)
swap_tests true true a b c h = not_both refl (h refl)
swap_tests true false a b c h = refl
swap_tests false true a b c h = refl
swap_tests false false a b c h = refl

said_placed : {X : Type 0} (says : At → Option X) (x : At) (xs : List At) (key : Bytes) → overlaps_some x.range xs ≡ false → said says (placed x xs) key ≡ said says (x ∷ xs) key
said_placed says x [] key n = refl
said_placed says x (y ∷ ys) key n = by_test (is_below y.range.begin x.range.begin) (λ (zs : List At). said says zs key ≡ said says (x ∷ y ∷ ys) key) (y ∷ placed x ys) (x ∷ y ∷ ys)
    (λ e. ap (λ v. cond (holds y.range key) (says y) v) (said_placed says x ys key (not_right (overlaps x.range y.range) (overlaps_some x.range ys) n))
    ∙ swap_tests (holds x.range key) (holds y.range key) (says x) (says y) (said says ys key) (held_once x.range y.range key (not_left (overlaps x.range y.range) (overlaps_some x.range ys) n)))
    (λ e. refl)

pub said_in_order : {X : Type 0} (says : At → Option X) (xs : List At) (key : Bytes) → apart_all xs ≡ true → said says (in_order xs) key ≡ said says xs key
said_in_order says [] key a = refl
said_in_order says (x ∷ xs) key a =
    let n = not_true (overlaps_some x.range xs) (left (not (overlaps_some x.range xs)) (apart_all xs) a) in
    said_placed says x (in_order xs) key (some_in_order x.range xs ∙ n)
    ∙ ap (λ v. cond (holds x.range key) (says x) v) (said_in_order says xs key (right (not (overlaps_some x.range xs)) (apart_all xs) a))

-- the version of the file at a place
abbrev version_at : List LoadedFile → At → Option ℕ
version_at files at = option_map (λ file. file.version) (slice_get files at.place)

pub said_numbered : {X : Type 0} (says : Option LoadedFile → Option X) → says None ≡ None → (all : List LoadedFile) (n : ℕ) (files : List LoadedFile) (key : Bytes) → ((i : ℕ) → slice_get all (n + i) ≡ slice_get files i) → said (λ at. says (slice_get all at.place)) (numbered n files) key ≡ says (file_with files key)
said_numbered says z all n [] key h = sym z
said_numbered {X} says z all n (file ∷ files) key h = go (holds (range_of file) key) refl (said_numbered says z all (n + 1) files key (λ i. let e : n + 1 + i ≡ n + suc i = omega arith in ap (slice_get all) e ∙ h (suc i)))
  where
    here : slice_get all n ≡ Some file
    here = let e : n ≡ n + 0 = omega arith in ap (slice_get all) e ∙ h 0

    rest : Option X
    rest = said (λ at. says (slice_get all at.place)) (numbered (n + 1) files) key

    go : (b : Bool) → holds (range_of file) key ≡ b → rest ≡ says (file_with files key) → said (λ at. says (slice_get all at.place)) (numbered n (file ∷ files)) key ≡ says (file_with (file ∷ files) key)
    go true e ih = rw e (ap says here)
    go false e ih = rw e ih

-- ---- places

all_numbered : (n m : ℕ) (files : List LoadedFile) → n + length files ≤ m → AllByRecursion (λ at. at.place < m) (numbered n files)
all_numbered n m [] h = tt
all_numbered n m (file ∷ files) h = (omega arith, all_numbered (n + 1) m files (omega arith))

pub places_within : (files : List LoadedFile) → AllByRecursion (λ at. at.place < length files) (in_order (numbered 0 files))
places_within files = all_in_order (λ at. at.place < length files) (numbered 0 files) (all_numbered 0 (length files) files (omega arith))

-- ---- the pieces

abbrev BeginsFrom : Bytes → Piece → Type 0
BeginsFrom end next = is_below next.range.begin end ≡ false

past_next : (range : KeyRange) (y : At) (b : Bool) (o : Option LoadedFile) (rest : List Piece) → is_backwards y.range ≡ b → is_below y.range.begin range.begin ≡ false → overlaps range y.range ≡ false → AllByRecursion (BeginsFrom range.end) rest → AllByRecursion (BeginsFrom range.end) (cond b [] (piece_of y.range o) ++ rest)
past_next range y true o rest e h n r = r
past_next range y false None rest e h n r = r
past_next range y false (Some file) rest e h n r = (past range y.range h n e, r)

past_all : (files : List LoadedFile) (range : KeyRange) (xs : List At) → AllByRecursion (λ y. is_below y.range.begin range.begin ≡ false) xs → overlaps_some range xs ≡ false → AllByRecursion (BeginsFrom range.end) (pieces_at files xs)
past_all files range [] h n = tt
past_all files range (y ∷ ys) h n =
    past_next range y (is_backwards y.range) (slice_get files y.place) (pieces_at files ys) refl h.0 (not_left (overlaps range y.range) (overlaps_some range ys) n)
    (past_all files range ys h.1 (not_right (overlaps range y.range) (overlaps_some range ys) n))

line_next : (x : At) (b : Bool) (o : Option LoadedFile) (rest : List Piece) → is_backwards x.range ≡ b → AllByRecursion (BeginsFrom x.range.end) rest → AreLine rest → AreLine (cond b [] (piece_of x.range o) ++ rest)
line_next x true o rest e h l = l
line_next x false None rest e h l = l
line_next x false (Some file) rest e h l = (e, h, l)

line_at : (files : List LoadedFile) (xs : List At) → AreOrdered xs → apart_all xs ≡ true → AreLine (pieces_at files xs)
line_at files [] h a = tt
line_at files (x ∷ xs) h a =
    line_next x (is_backwards x.range) (slice_get files x.place) (pieces_at files xs) refl
    (past_all files x.range xs h.0 (not_true (overlaps_some x.range xs) (left (not (overlaps_some x.range xs)) (apart_all xs) a)))
    (line_at files xs h.1 (right (not (overlaps_some x.range xs)) (apart_all xs) a))

get_none : (files : List LoadedFile) (n : ℕ) → n < length files → slice_get files n ≡ None → ⊥
get_none [] n l e = absurd (omega arith)
get_none (f ∷ fs) zero l e = absurd cc
get_none (f ∷ fs) (suc n) l e = get_none fs n (omega arith) e

tell_next : (files : List LoadedFile) (x : At) (key : Bytes) (b : Bool) (o : Option LoadedFile) (rest : List Piece) (v : Option ℕ) → is_backwards x.range ≡ b → slice_get files x.place ≡ o → x.place < length files → since rest key ≡ v
    → since (cond b [] (piece_of x.range o) ++ rest) key ≡ cond (holds x.range key) (option_map (λ file. file.version) o) v
tell_next files x key true o rest v e f l h = h ∙ sym (ap (λ t. cond t (option_map (λ file. file.version) o) v) (holds_backwards x.range key e))
tell_next files x key false None rest v e f l h = absurd (get_none files x.place l f)
tell_next files x key false (Some file) rest v e f l h = ap (λ z. cond (holds x.range key) (Some file.version) z) h

tell_at : (files : List LoadedFile) (xs : List At) (key : Bytes) → AllByRecursion (λ at. at.place < length files) xs → since (pieces_at files xs) key ≡ said (version_at files) xs key
tell_at files [] key h = refl
tell_at files (x ∷ xs) key h = tell_next files x key (is_backwards x.range) (slice_get files x.place) (pieces_at files xs) (said (version_at files) xs key) refl refl h.0 (tell_at files xs key h.1)

pub pieces_are : (files : List LoadedFile) (order : List At) (pieces : List Piece) → order ≡ in_order (numbered 0 files) → first_overlap files ≡ None → pieces ≡ pieces_at files order → ArePiecesOf files pieces
pieces_are files order pieces o h p = subst (ArePiecesOf files) (sym (p ∙ ap (pieces_at files) o)) (record {
  line = line_at files (in_order (numbered 0 files)) (are_ordered (numbered 0 files)) (apart_in_order (numbered 0 files) ∙ numbered_apart files h);
  tell = λ key. tell_at files (in_order (numbered 0 files)) key (places_within files)
      ∙ said_in_order (version_at files) (numbered 0 files) key (numbered_apart files h)
      ∙ said_numbered (option_map (λ file. file.version)) refl files 0 files key (λ i. let e : 0 + i ≡ i = omega arith in ap (slice_get files) e);
})

-- one more piece, of one more range
pub piece_next : (files : List LoadedFile) (at : At) (file : LoadedFile) (items rest : List At) (done new all : List Piece) → items ≡ at ∷ rest → is_backwards at.range ≡ false → at.place < length files → file ≡ get_or files at.place file
    → done ++ pieces_at files items ≡ all → new ≡ done ++ record { version = file.version; range = at.range } ∷ [] → new ++ pieces_at files rest ≡ all
piece_next files at file items rest done new all e b l f h n =
    ap (λ xs. xs ++ pieces_at files rest) n
    ∙ append_assoc done (record { version = file.version; range = at.range } ∷ []) (pieces_at files rest)
    ∙ sym (ap (λ xs. done ++ xs) (ap (pieces_at files) e ∙ ap (λ o. cond (is_backwards at.range) [] (piece_of at.range o) ++ pieces_at files rest) (slice_get_read files (length files) at.place file refl l f)
    ∙ ap (λ t. cond t [] (record { version = file.version; range = at.range } ∷ []) ++ pieces_at files rest) b))
    ∙ h

pub pieces_end : (files : List LoadedFile) (items : List At) (pieces all : List Piece) (len : ℕ) → len ≡ length items → len ≡ 0 → pieces ++ pieces_at files items ≡ all → pieces ≡ all
pieces_end files [] pieces all len l z h = sym (append-nil pieces) ∙ h
pieces_end files (x ∷ xs) pieces all len l z h = absurd (omega arith)
