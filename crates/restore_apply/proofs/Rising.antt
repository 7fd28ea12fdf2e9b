-- The pairs of files whose ranges stand in order, and apart, rise; a key has there what its file says.
use Rattle.std.proofs.Common.{◌≡◌, ℕ, zero, suc, ◌<◌, ◌≤◌, length, get_or, drop, append_assoc, ◌+◌, Bool, true, false, not, cond, List, [], ◌∷◌, ◌++◌, Option, Some, None, refl, sym, ap, ◌∙◌, subst, arith}
use Rattle.std.specs.List.{slice_get, AllByRecursion}
use Rattle.std.proofs.lemmas.Option.{slice_get_read}
use Rattle.fb_bytes.specs.Bytes.{Bytes, is_below, is_same}
use Rattle.fb_bytes.specs.declared.KeyRange.{KeyRange}
use Rattle.fb_bytes.specs.declared.Pair.{Pair}
use Rattle.fb_bytes.specs.Keys.{holds, overlaps, is_backwards}
use Rattle.fb_bytes.specs.Options.{◌>>=◌}
use Rattle.fb_bytes.specs.Pairs.{value_of, KeyPast, AreRising}
use Rattle.fb_bytes.proofs.Order.{below_trans, below_itself, below_up, same_eq}
use Rattle.mutations.proofs.Basics.{not_both, not_true, all_weaker}
use Rattle.mutations.proofs.Intersections.{holds_backwards}
use Rattle.restore_apply.specs.Loaded.{LoadedFile}
use Rattle.restore_apply.specs.inner.Loaded.{stored_at}
use Rattle.restore_apply.specs.Overlaps.{At, overlaps_some, numbered, in_order, first_overlap}
use Rattle.restore_apply.specs.inner.Overlaps.{AreOrdered}
use Rattle.restore_apply.specs.inner.Stored.{kept, kept_of, stored, IsRising, EachIsRising}
use Rattle.restore_apply.proofs.Apart.{apart_all, apart_in_order, drop_at}
use Rattle.restore_apply.proofs.Lines.{left, right, not_left, not_right, from_begin, before_end, past, not_below, are_ordered, numbered_apart, said, said_in_order, said_numbered}

-- ---- the pairs that a range holds

kept_all : (P : Pair → Type 0) (range : KeyRange) (pairs : List Pair) → ((pair : Pair) → holds range pair.key ≡ true → P pair) → AllByRecursion P (kept range pairs)
kept_all P range [] f = tt
kept_all P range (p ∷ ps) f = go (holds range p.key) refl (kept_all P range ps f)
  where
    go : (b : Bool) → holds range p.key ≡ b → AllByRecursion P (kept range ps) → AllByRecursion P (cond b (p ∷ kept range ps) (kept range ps))
    go true e ih = (f p e, ih)
    go false e ih = ih

kept_each : (P : Pair → Type 0) (range : KeyRange) (pairs : List Pair) → AllByRecursion P pairs → AllByRecursion P (kept range pairs)
kept_each P range [] h = tt
kept_each P range (p ∷ ps) h = go (holds range p.key) (kept_each P range ps h.1)
  where
    go : (b : Bool) → AllByRecursion P (kept range ps) → AllByRecursion P (cond b (p ∷ kept range ps) (kept range ps))
    go true ih = (h.0, ih)
    go false ih = ih

-- ---- rising

abbrev ArePast : Bytes → List Pair → Type 0
ArePast key pairs = AllByRecursion (λ pair. is_below key pair.key ≡ true) pairs

pub rising_all : (x : Pair) (xs : List Pair) → AreRising (x ∷ xs) → ArePast x.key xs
rising_all x [] h = tt
rising_all x (y ∷ ys) h = (h.0, all_weaker (λ (z : Pair). is_below y.key z.key ≡ true) (λ (z : Pair). is_below x.key z.key ≡ true) (λ z l. below_trans x.key y.key z.key h.0 l) ys (rising_all y ys h.1))

past_not_same : (key x : Bytes) → is_below key x ≡ true → is_same x key ≡ false
past_not_same key x h = go (is_same x key) refl
  where
    go : (b : Bool) → is_same x key ≡ b → is_same x key ≡ false
    go true e = not_both (subst (λ z. is_below key z ≡ true) (same_eq x key e) h) (below_itself key)
    go false e = e

pub value_past : (key : Bytes) (xs : List Pair) → ArePast key xs → value_of xs key ≡ None
value_past key [] h = refl
value_past key (x ∷ xs) h = let e = past_not_same key x.key h.0 in rw e (value_past key xs h.1)

first_past : (key : Bytes) (xs : List Pair) → ArePast key xs → KeyPast key xs
first_past key [] h = tt
first_past key (x ∷ xs) h = h.0

kept_rising : (range : KeyRange) (pairs : List Pair) → AreRising pairs → AreRising (kept range pairs)
kept_rising range [] h = tt
kept_rising range (p ∷ ps) h = go (holds range p.key) (kept_rising range ps h.1)
  where
    go : (b : Bool) → AreRising (kept range ps) → AreRising (cond b (p ∷ kept range ps) (kept range ps))
    go true ih = (first_past p.key (kept range ps) (kept_each (λ pair. is_below p.key pair.key ≡ true) range ps (rising_all p ps h)), ih)
    go false ih = ih

abbrev AreUnder : Bytes → List Pair → Type 0
AreUnder key pairs = AllByRecursion (λ pair. is_below pair.key key ≡ true) pairs

abbrev AreFrom : Bytes → List Pair → Type 0
AreFrom key pairs = AllByRecursion (λ pair. is_below pair.key key ≡ false) pairs

past_end : (x : Pair) (end : Bytes) (ys : List Pair) → is_below x.key end ≡ true → AreFrom end ys → KeyPast x.key ys
past_end x end [] u f = tt
past_end x end (y ∷ ys) u f = below_up x.key y.key end u f.0

rising_joined : (end : Bytes) (xs ys : List Pair) → AreRising xs → AreUnder end xs → AreRising ys → AreFrom end ys → AreRising (xs ++ ys)
rising_joined end [] ys r u s f = s
rising_joined end (x ∷ []) ys r u s f = (past_end x end ys u.0 f, s)
rising_joined end (x ∷ y ∷ xs) ys r u s f = (r.0, rising_joined end (y ∷ xs) ys r.1 u.1 s f)

all_joined : (P : Pair → Type 0) (xs ys : List Pair) → AllByRecursion P xs → AllByRecursion P ys → AllByRecursion P (xs ++ ys)
all_joined P [] ys h g = g
all_joined P (x ∷ xs) ys h g = (h.0, all_joined P xs ys h.1 g)

-- ---- one file

kept_of_rising : (range : KeyRange) (o : Option LoadedFile) → IsRising o → AreRising (kept_of range o)
kept_of_rising range None h = tt
kept_of_rising range (Some file) h = kept_rising range file.body.pairs h

kept_of_all : (P : Pair → Type 0) (range : KeyRange) (o : Option LoadedFile) → ((pair : Pair) → holds range pair.key ≡ true → P pair) → AllByRecursion P (kept_of range o)
kept_of_all P range None f = tt
kept_of_all P range (Some file) f = kept_all P range file.body.pairs f

-- a key of a range that begins no earlier, and overlaps no key, is at the end or past it
held_past : (a b : KeyRange) (key : Bytes) → is_below b.begin a.begin ≡ false → overlaps a b ≡ false → holds b key ≡ true → is_below key a.end ≡ false
held_past a b key o n h = go (is_backwards b) refl
  where
    go : (t : Bool) → is_backwards b ≡ t → is_below key a.end ≡ false
    go true e = not_both h (holds_backwards b key e)
    go false e = not_below a.end b.begin key (from_begin b key h) (past a b o n e)

-- ---- all files

from_end : (files : List LoadedFile) (range : KeyRange) (xs : List At) → AllByRecursion (λ y. is_below y.range.begin range.begin ≡ false) xs → overlaps_some range xs ≡ false → AreFrom range.end (stored files xs)
from_end files range [] h n = tt
from_end files range (y ∷ ys) h n =
    all_joined (λ pair. is_below pair.key range.end ≡ false) (kept_of y.range (slice_get files y.place)) (stored files ys)
    (kept_of_all (λ pair. is_below pair.key range.end ≡ false) y.range (slice_get files y.place) (λ pair g. held_past range y.range pair.key h.0 (not_left (overlaps range y.range) (overlaps_some range ys) n) g))
    (from_end files range ys h.1 (not_right (overlaps range y.range) (overlaps_some range ys) n))

-- one overlaps none of those behind it
apart_first : (x : At) (xs : List At) → apart_all (x ∷ xs) ≡ true → overlaps_some x.range xs ≡ false
apart_first x xs a = not_true (overlaps_some x.range xs) (left (not (overlaps_some x.range xs)) (apart_all xs) a)

apart_rest : (x : At) (xs : List At) → apart_all (x ∷ xs) ≡ true → apart_all xs ≡ true
apart_rest x xs a = right (not (overlaps_some x.range xs)) (apart_all xs) a

stored_rising : (files : List LoadedFile) (xs : List At) → EachIsRising files xs → AreOrdered xs → apart_all xs ≡ true → AreRising (stored files xs)
stored_rising files [] r h a = tt
stored_rising files (x ∷ xs) r h a =
    rising_joined x.range.end (kept_of x.range (slice_get files x.place)) (stored files xs)
    (kept_of_rising x.range (slice_get files x.place) r.0)
    (kept_of_all (λ pair. is_below pair.key x.range.end ≡ true) x.range (slice_get files x.place) (λ pair g. before_end x.range pair.key g))
    (stored_rising files xs r.1 h.1 (apart_rest x xs a))
    (from_end files x.range xs h.0 (apart_first x xs a))

-- ---- the value of a key

-- the first of two
abbrev pub first_of : Option Bytes → Option Bytes → Option Bytes
first_of None next = next
first_of (Some value) next = Some value

pub first_none : (o : Option Bytes) → first_of o None ≡ o
first_none None = refl
first_none (Some v) = refl

value_joined : (xs ys : List Pair) (key : Bytes) → value_of (xs ++ ys) key ≡ first_of (value_of xs key) (value_of ys key)
value_joined [] ys key = refl
value_joined (x ∷ xs) ys key = go (is_same x.key key) (value_joined xs ys key)
  where
    go : (b : Bool) → value_of (xs ++ ys) key ≡ first_of (value_of xs key) (value_of ys key) → cond b (Some x.value) (value_of (xs ++ ys) key) ≡ first_of (cond b (Some x.value) (value_of xs key)) (value_of ys key)
    go true ih = refl
    go false ih = ih

alike : {X : Type 0} (b : Bool) (x : X) → x ≡ cond b x x
alike true x = refl
alike false x = refl

value_kept : (range : KeyRange) (pairs : List Pair) (key : Bytes) → value_of (kept range pairs) key ≡ cond (holds range key) (value_of pairs key) None
value_kept range [] key = alike (holds range key) None
value_kept range (p ∷ ps) key = go (is_same p.key key) (holds range p.key) refl refl (value_kept range ps key)
  where
    go : (s h : Bool) → is_same p.key key ≡ s → holds range p.key ≡ h → value_of (kept range ps) key ≡ cond (holds range key) (value_of ps key) None
        → value_of (cond h (p ∷ kept range ps) (kept range ps)) key ≡ cond (holds range key) (cond s (Some p.value) (value_of ps key)) None
    go true true e f ih = let g : holds range key ≡ true = ap (holds range) (sym (same_eq p.key key e)) ∙ f in rw (e, g) refl
    go true false e f ih = let g : holds range key ≡ false = ap (holds range) (sym (same_eq p.key key e)) ∙ f in ih ∙ (rw g refl)
    go false true e f ih = rw e ih
    go false false e f ih = ih

value_kept_of : (range : KeyRange) (o : Option LoadedFile) (key : Bytes) → value_of (kept_of range o) key ≡ cond (holds range key) (o >>= (λ file. value_of file.body.pairs key)) None
value_kept_of range None key = alike (holds range key) None
value_kept_of range (Some file) key = value_kept range file.body.pairs key

none_from : (end key : Bytes) (xs : List Pair) → AreFrom end xs → is_below key end ≡ true → value_of xs key ≡ None
none_from end key [] f u = refl
none_from end key (x ∷ xs) f u = go (is_same x.key key) refl (none_from end key xs f.1 u)
  where
    go : (b : Bool) → is_same x.key key ≡ b → value_of xs key ≡ None → cond b (Some x.value) (value_of xs key) ≡ None
    go true e ih = not_both (ap (λ z. is_below z end) (same_eq x.key key e) ∙ u) f.0
    go false e ih = ih

-- what the file at a place says of a key
abbrev value_at : List LoadedFile → Bytes → At → Option Bytes
value_at files key at = slice_get files at.place >>= (λ file. value_of file.body.pairs key)

value_stored : (files : List LoadedFile) (xs : List At) (key : Bytes) → AreOrdered xs → apart_all xs ≡ true → value_of (stored files xs) key ≡ said (value_at files key) xs key
value_stored files [] key h a = refl
value_stored files (x ∷ xs) key h a =
    value_joined (kept_of x.range (slice_get files x.place)) (stored files xs) key
    ∙ ap (λ v. first_of v (value_of (stored files xs) key)) (value_kept_of x.range (slice_get files x.place) key)
    ∙ go (holds x.range key) refl (value_stored files xs key h.1 (apart_rest x xs a))
  where
    go : (b : Bool) → holds x.range key ≡ b → value_of (stored files xs) key ≡ said (value_at files key) xs key
        → first_of (cond b (value_at files key x) None) (value_of (stored files xs) key) ≡ cond b (value_at files key x) (said (value_at files key) xs key)
    go true e ih = ap (first_of (value_at files key x)) (none_from x.range.end key (stored files xs) (from_end files x.range xs h.0 (apart_first x xs a)) (before_end x.range key e)) ∙ first_none (value_at files key x)
    go false e ih = ih

-- ---- files in order

order_apart : (files : List LoadedFile) → first_overlap files ≡ None → apart_all (in_order (numbered 0 files)) ≡ true
order_apart files h = apart_in_order (numbered 0 files) ∙ numbered_apart files h

pub rise : (files : List LoadedFile) (order : List At) (pairs : List Pair) → order ≡ in_order (numbered 0 files) → first_overlap files ≡ None → pairs ≡ stored files order → EachIsRising files order → AreRising pairs
rise files order pairs o h p r =
    subst AreRising (sym (p ∙ ap (stored files) o))
    (stored_rising files (in_order (numbered 0 files)) (subst (EachIsRising files) o r) (are_ordered (numbered 0 files)) (order_apart files h))

pub tell : (files : List LoadedFile) (order : List At) (pairs : List Pair) (key : Bytes) → order ≡ in_order (numbered 0 files) → first_overlap files ≡ None → pairs ≡ stored files order → value_of pairs key ≡ stored_at files key
tell files order pairs key o h p =
    ap (λ xs. value_of xs key) (p ∙ ap (stored files) o)
    ∙ value_stored files (in_order (numbered 0 files)) key (are_ordered (numbered 0 files)) (order_apart files h)
    ∙ said_in_order (value_at files key) (numbered 0 files) key (numbered_apart files h)
    ∙ said_numbered (λ (o : Option LoadedFile). o >>= (λ file. value_of file.body.pairs key)) refl files 0 files key (λ i. let e : 0 + i ≡ i = omega arith in ap (slice_get files) e)

-- ---- one more file

pub get_past : (files : List LoadedFile) (i : ℕ) → length files ≤ i → slice_get files i ≡ None
get_past [] i l = refl
get_past (f ∷ fs) zero l = absurd (omega (arith, l))
get_past (f ∷ fs) (suc i) l = get_past fs i (omega (arith, l))

pub join_next : (files : List LoadedFile) (order : List At) (i : ℕ) (at : At) (o : Option LoadedFile) (old new all : List Pair) → i < length order → at ≡ get_or order i at → slice_get files at.place ≡ o
    → new ≡ old ++ kept_of at.range o → old ++ stored files (drop i order) ≡ all → new ++ stored files (drop (i + 1) order) ≡ all
join_next files order i at o old new all l h g n e =
    let split = drop_at order i at (slice_get_read order (length order) i at refl l h) in
    let one : i + 1 ≡ suc i = omega arith in
    ap (λ xs. xs ++ stored files (drop (i + 1) order)) n
    ∙ ap (λ k. (old ++ kept_of at.range o) ++ stored files (drop k order)) one
    ∙ append_assoc old (kept_of at.range o) (stored files (drop (suc i) order))
    ∙ ap (λ p. old ++ (kept_of at.range p ++ stored files (drop (suc i) order))) (sym g)
    ∙ ap (λ xs. old ++ stored files xs) (sym split)
    ∙ e

pub rise_next : (files : List LoadedFile) (order : List At) (i : ℕ) (at : At) (o : Option LoadedFile) → i < length order → at ≡ get_or order i at → slice_get files at.place ≡ o → IsRising o
    → (EachIsRising files (drop i order) → EachIsRising files order) → EachIsRising files (drop (i + 1) order) → EachIsRising files order
rise_next files order i at o l h g r f rest =
    let split = drop_at order i at (slice_get_read order (length order) i at refl l h) in
    let one : i + 1 ≡ suc i = omega arith in
    let behind : EachIsRising files (drop (suc i) order) = subst (λ k. EachIsRising files (drop k order)) one rest in
    f (subst (EachIsRising files) (sym split) (subst IsRising (sym g) r, behind))
