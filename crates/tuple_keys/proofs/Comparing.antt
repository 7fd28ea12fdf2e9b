-- The byte order of spellings is the order of the tuples.
use Rattle.std.proofs.Common.{◌≡◌, ℕ, zero, suc, ◌+◌, ◌-◌, ◌^◌, ◌<◌, cond, ltb, List, [], ◌∷◌, ◌++◌, length, refl, sym, ap, ◌∙◌, arith, inl, inr, ℤ, pos, negsuc}
use Rattle.std.specs.declared.cmp.Ordering.{Ordering}
use Rattle.std.specs.declared.cmp.Ordering.TheVariants.{Less, Equal, Greater}
use Rattle.std.specs.Ordering.{nat_cmp, int_cmp, ordering_then}
use Rattle.std.specs.Cmp.Lexicographic.{slice_cmp}
use Rattle.std.specs.Int.RustNames.{unsigned_abs}
use Rattle.std.proofs.lemmas.Bool.{cases_order, lt-ltb, le-ltb}
use Rattle.std.proofs.lemmas.List.Concat.{flat_map-cons}
use Rattle.fb_bytes.specs.Bytes.{IsBytes}
use Rattle.tuple_keys.specs.declared.element.Element.{Element}
use Rattle.tuple_keys.specs.declared.element.Element.TheVariants.{Null, Bytes, Text, Int}
use Rattle.tuple_keys.specs.Elements.{IsElement, AreElements}
use Rattle.tuple_keys.specs.Spelling.{closed, digits, complement, int_spelling, element_spelling, spelling}
use Rattle.tuple_keys.specs.Reading.{value}
use Rattle.tuple_keys.specs.Order.{compare_elements, compare_tuples}
use Rattle.tuple_keys.proofs.Values.{nat_cmp-less, nat_cmp-same, nat_cmp-more, value-order, value-longer, AreDigits, digits_are, rest_fits, complement-length}

abbrev compare : List ℕ → List ℕ → Ordering
compare = slice_cmp nat_cmp

then-assoc : (a b c : Ordering) → ordering_then a (ordering_then b c) ≡ ordering_then (ordering_then a b) c
then-assoc Less b c = refl
then-assoc Equal b c = refl
then-assoc Greater b c = refl

compare-append : (xs ys s t : List ℕ) → length xs ≡ length ys → compare (xs ++ s) (ys ++ t) ≡ ordering_then (compare xs ys) (compare s t)
compare-append [] [] s t e = refl
compare-append [] (y ∷ ys) s t e = absurd (omega arith)
compare-append (x ∷ xs) [] s t e = absurd (omega arith)
compare-append (x ∷ xs) (y ∷ ys) s t e = ap (ordering_then (nat_cmp x y)) (compare-append xs ys s t (omega arith)) ∙ then-assoc (nat_cmp x y) (compare xs ys) (compare s t)

-- two lists whose first bytes decide
first_less : (a b : ℕ) (s t : List ℕ) → a < b → compare (a ∷ s) (b ∷ t) ≡ Less
first_less a b s t lt = ap (λ (o : Ordering). ordering_then o (compare s t)) (nat_cmp-less a b lt)

first_more : (a b : ℕ) (s t : List ℕ) → b < a → compare (a ∷ s) (b ∷ t) ≡ Greater
first_more a b s t lt = ap (λ (o : Ordering). ordering_then o (compare s t)) (nat_cmp-more a b lt)

first_same : (a b : ℕ) (s t : List ℕ) → a ≡ b → compare (a ∷ s) (b ∷ t) ≡ compare s t
first_same a b s t e = ap (λ (o : Ordering). ordering_then o (compare s t)) (nat_cmp-same a b e)

-- the next byte isn't the mark of a zero
abbrev Calm : List ℕ → Type 0
Calm [] = Unit {0}
Calm (c ∷ rest) = c < 255

below_mark : (s r : List ℕ) → Calm s → compare s (255 ∷ r) ≡ Less
below_mark [] r h = refl
below_mark (c ∷ s) r h = first_less c 255 s r h

above_mark : (s r : List ℕ) → Calm s → compare (255 ∷ r) s ≡ Greater
above_mark [] r h = refl
above_mark (c ∷ s) r h = first_more 255 c r s h

closed_order : (x y s t : List ℕ) → Calm s → Calm t → compare (closed x ++ s) (closed y ++ t) ≡ ordering_then (compare x y) (compare s t)
closed_order [] [] s t cs ct = refl
closed_order [] (zero ∷ y) s t cs ct = below_mark s (closed y ++ t) cs
closed_order [] (suc b ∷ y) s t cs ct = first_less 0 (suc b) s (closed y ++ t) (omega arith)
closed_order (zero ∷ x) [] s t cs ct = above_mark t (closed x ++ s) ct
closed_order (suc a ∷ x) [] s t cs ct = first_more (suc a) 0 (closed x ++ s) t (omega arith)
closed_order (zero ∷ x) (zero ∷ y) s t cs ct = closed_order x y s t cs ct
closed_order (zero ∷ x) (suc b ∷ y) s t cs ct =
    first_less 0 (suc b) (255 ∷ (closed x ++ s)) (closed y ++ t) (omega arith) ∙ sym (ap (λ (o : Ordering). ordering_then o (compare s t)) (first_less 0 (suc b) x y (omega arith)))
closed_order (suc a ∷ x) (zero ∷ y) s t cs ct =
    first_more (suc a) 0 (closed x ++ s) (255 ∷ (closed y ++ t)) (omega arith) ∙ sym (ap (λ (o : Ordering). ordering_then o (compare s t)) (first_more (suc a) 0 x y (omega arith)))
closed_order (suc a ∷ x) (suc b ∷ y) s t cs ct =
    ap (ordering_then (nat_cmp (suc a) (suc b))) (closed_order x y s t cs ct) ∙ then-assoc (nat_cmp (suc a) (suc b)) (compare x y) (compare s t)

-- ---- integers

plain_order : (m n : ℕ) (xs ys s t : List ℕ) → AreDigits m xs → AreDigits n ys → compare ((20 + length xs) ∷ (xs ++ s)) ((20 + length ys) ∷ (ys ++ t)) ≡ ordering_then (nat_cmp m n) (compare s t)
plain_order m n xs ys s t p q = elim (cases_order (length xs) (length ys)) [
  | inl same ↦
      (let values : compare xs ys ≡ nat_cmp m n = value-order xs ys same p.fits q.fits ∙ ap (λ (k : ℕ). nat_cmp k (value ys)) p.value_is ∙ ap (nat_cmp m) q.value_is in
      first_same (20 + length xs) (20 + length ys) (xs ++ s) (ys ++ t) (omega arith) ∙ compare-append xs ys s t same ∙ ap (λ (o : Ordering). ordering_then o (compare s t)) values)
  | inr (inl lt) ↦
      (let below : m < n = omega (arith, value-longer xs ys q.front lt p.fits, p.value_is, q.value_is) in
      first_less (20 + length xs) (20 + length ys) (xs ++ s) (ys ++ t) (omega arith) ∙ sym (ap (λ (o : Ordering). ordering_then o (compare s t)) (nat_cmp-less m n below)))
  | inr (inr gt) ↦
      (let above : n < m = omega (arith, value-longer ys xs p.front gt q.fits, p.value_is, q.value_is) in
      first_more (20 + length xs) (20 + length ys) (xs ++ s) (ys ++ t) (omega arith) ∙ sym (ap (λ (o : Ordering). ordering_then o (compare s t)) (nat_cmp-more m n above)))
]

turned_byte : (a b : ℕ) → a < 256 → b < 256 → nat_cmp (255 - a) (255 - b) ≡ nat_cmp b a
turned_byte a b la lb = elim (cases_order a b) [
  | inl same ↦ nat_cmp-same (255 - a) (255 - b) (omega arith) ∙ sym (nat_cmp-same b a (omega arith))
  | inr (inl lt) ↦ nat_cmp-more (255 - a) (255 - b) (omega arith) ∙ sym (nat_cmp-more b a lt)
  | inr (inr gt) ↦ nat_cmp-less (255 - a) (255 - b) (omega arith) ∙ sym (nat_cmp-less b a gt)
]

complement-order : (xs ys : List ℕ) → length xs ≡ length ys → IsBytes xs → IsBytes ys → compare (complement xs) (complement ys) ≡ compare ys xs
complement-order [] [] e f g = refl
complement-order [] (y ∷ ys) e f g = absurd (omega arith)
complement-order (x ∷ xs) [] e f g = absurd (omega arith)
complement-order (x ∷ xs) (y ∷ ys) e f g =
    ap (λ (o : Ordering). ordering_then o (compare (complement xs) (complement ys))) (turned_byte x y (f 0) (g 0)) ∙ ap (ordering_then (nat_cmp y x)) (complement-order xs ys (omega arith) (rest_fits x xs f) (rest_fits y ys g))

turned_order : (m n : ℕ) (xs ys s t : List ℕ) → AreDigits m xs → AreDigits n ys → compare ((20 - length xs) ∷ (complement xs ++ s)) ((20 - length ys) ∷ (complement ys ++ t)) ≡ ordering_then (nat_cmp n m) (compare s t)
turned_order m n xs ys s t p q =
    let px = p.short in
    let py = q.short in
    elim (cases_order (length xs) (length ys)) [
      | inl same ↦
          (let values : compare ys xs ≡ nat_cmp n m = value-order ys xs (sym same) q.fits p.fits ∙ ap (λ (k : ℕ). nat_cmp k (value xs)) q.value_is ∙ ap (nat_cmp n) p.value_is in
          let len : length (complement xs) ≡ length (complement ys) = complement-length xs ∙ same ∙ sym (complement-length ys) in
          first_same (20 - length xs) (20 - length ys) (complement xs ++ s) (complement ys ++ t) (omega arith) ∙ compare-append (complement xs) (complement ys) s t len ∙ ap (λ (o : Ordering). ordering_then o (compare s t)) (complement-order xs ys same p.fits q.fits ∙ values))
      | inr (inl lt) ↦
          (let below : m < n = omega (arith, value-longer xs ys q.front lt p.fits, p.value_is, q.value_is) in
          first_more (20 - length xs) (20 - length ys) (complement xs ++ s) (complement ys ++ t) (omega arith) ∙ sym (ap (λ (o : Ordering). ordering_then o (compare s t)) (nat_cmp-more n m below)))
      | inr (inr gt) ↦
          (let above : n < m = omega (arith, value-longer ys xs p.front gt q.fits, p.value_is, q.value_is) in
          first_less (20 - length xs) (20 - length ys) (complement xs ++ s) (complement ys ++ t) (omega arith) ∙ sym (ap (λ (o : Ordering). ordering_then o (compare s t)) (nat_cmp-less n m above)))
    ]

int_cmp-numbers : (m n : ℕ) → nat_cmp m n ≡ cond (ltb m n) Less (cond (ltb n m) Greater Equal)
int_cmp-numbers m n = elim (cases_order m n) [
  | inl same ↦ nat_cmp-same m n same ∙ sym (rw (le-ltb m n (omega arith), le-ltb n m (omega arith)) refl)
  | inr (inl lt) ↦ nat_cmp-less m n lt ∙ sym (rw (lt-ltb m n lt) refl)
  | inr (inr gt) ↦ nat_cmp-more m n gt ∙ sym (rw (le-ltb m n (omega arith), lt-ltb n m gt) refl)
]

nat_cmp-suc : (m n : ℕ) → nat_cmp (suc m) (suc n) ≡ nat_cmp m n
nat_cmp-suc m n = elim (cases_order m n) [
  | inl same ↦ nat_cmp-same (suc m) (suc n) (omega arith) ∙ sym (nat_cmp-same m n same)
  | inr (inl lt) ↦ nat_cmp-less (suc m) (suc n) (omega arith) ∙ sym (nat_cmp-less m n lt)
  | inr (inr gt) ↦ nat_cmp-more (suc m) (suc n) (omega arith) ∙ sym (nat_cmp-more m n gt)
]

has_digits : (m : ℕ) (ds : List ℕ) → AreDigits (suc m) ds → 0 < length ds
has_digits m [] d = absurd (omega (arith, d.value_is))
has_digits m (b ∷ ds) d = omega arith

int_order : (a b : ℤ) (s t : List ℕ) → unsigned_abs a < 2 ^ 64 → unsigned_abs b < 2 ^ 64 → compare (int_spelling a ++ s) (int_spelling b ++ t) ≡ ordering_then (int_cmp a b) (compare s t)
int_order (pos m) (pos n) s t la lb =
    plain_order m n (digits m) (digits n) s t (digits_are m la) (digits_are n lb) ∙ ap (λ (o : Ordering). ordering_then o (compare s t)) (int_cmp-numbers m n)
int_order (pos m) (negsuc n) s t la lb =
    let d = digits_are (suc n) lb in
    let some = has_digits n (digits (suc n)) d in
    first_more (20 + length (digits m)) (20 - length (digits (suc n))) (digits m ++ s) (complement (digits (suc n)) ++ t) (omega arith)
int_order (negsuc m) (pos n) s t la lb =
    let d = digits_are (suc m) la in
    let some = has_digits m (digits (suc m)) d in
    first_less (20 - length (digits (suc m))) (20 + length (digits n)) (complement (digits (suc m)) ++ s) (digits n ++ t) (omega arith)
int_order (negsuc m) (negsuc n) s t la lb =
    turned_order (suc m) (suc n) (digits (suc m)) (digits (suc n)) s t (digits_are (suc m) la) (digits_are (suc n) lb) ∙ ap (λ (o : Ordering). ordering_then o (compare s t)) (nat_cmp-suc n m ∙ int_cmp-numbers n m)

-- integers come after the other elements
int_after : (k : ℕ) (r : List ℕ) (n : ℤ) (s : List ℕ) → k < 3 → unsigned_abs n < 2 ^ 64 → compare (k ∷ r) (int_spelling n ++ s) ≡ Less
int_after k r (pos n) s lt small = first_less k (20 + length (digits n)) r (digits n ++ s) (omega arith)
int_after k r (negsuc n) s lt small =
    let d = digits_are (suc n) small in
    let short = d.short in
    first_less k (20 - length (digits (suc n))) r (complement (digits (suc n)) ++ s) (omega arith)

after_int : (k : ℕ) (r : List ℕ) (n : ℤ) (s : List ℕ) → k < 3 → unsigned_abs n < 2 ^ 64 → compare (int_spelling n ++ s) (k ∷ r) ≡ Greater
after_int k r (pos n) s lt small = first_more (20 + length (digits n)) k (digits n ++ s) r (omega arith)
after_int k r (negsuc n) s lt small =
    let d = digits_are (suc n) small in
    let short = d.short in
    first_more (20 - length (digits (suc n))) k (complement (digits (suc n)) ++ s) r (omega arith)

-- ---- elements and tuples

element_order : (e f : Element) (s t : List ℕ) → IsElement e → IsElement f → Calm s → Calm t → compare (element_spelling e ++ s) (element_spelling f ++ t) ≡ ordering_then (compare_elements e f) (compare s t)
element_order Null Null s t he hf cs ct = refl
element_order Null (Bytes y) s t he hf cs ct = refl
element_order Null (Text y) s t he hf cs ct = refl
element_order Null (Int y) s t he hf cs ct = int_after 0 s y t (omega arith) hf
element_order (Bytes x) Null s t he hf cs ct = refl
element_order (Bytes x) (Bytes y) s t he hf cs ct = closed_order x y s t cs ct
element_order (Bytes x) (Text y) s t he hf cs ct = refl
element_order (Bytes x) (Int y) s t he hf cs ct = int_after 1 (closed x ++ s) y t (omega arith) hf
element_order (Text x) Null s t he hf cs ct = refl
element_order (Text x) (Bytes y) s t he hf cs ct = refl
element_order (Text x) (Text y) s t he hf cs ct = closed_order x y s t cs ct
element_order (Text x) (Int y) s t he hf cs ct = int_after 2 (closed x ++ s) y t (omega arith) hf
element_order (Int x) Null s t he hf cs ct = after_int 0 t x s (omega arith) he
element_order (Int x) (Bytes y) s t he hf cs ct = after_int 1 (closed y ++ t) x s (omega arith) he
element_order (Int x) (Text y) s t he hf cs ct = after_int 2 (closed y ++ t) x s (omega arith) he
element_order (Int x) (Int y) s t he hf cs ct = int_order x y s t he hf

element_calm : (e : Element) (s : List ℕ) → IsElement e → Calm (element_spelling e ++ s)
element_calm Null s h = omega arith
element_calm (Bytes x) s h = omega arith
element_calm (Text x) s h = omega arith
element_calm (Int (pos n)) s h = omega (arith, (digits_are n h).short)
element_calm (Int (negsuc n)) s h = omega arith

spelling_calm : (es : List Element) → AreElements es → Calm (spelling es)
spelling_calm [] h = tt
spelling_calm (e ∷ es) h = rw flat_map-cons (element_calm e (spelling es) h.0)

nothing_first : (e : Element) (s : List ℕ) → compare [] (element_spelling e ++ s) ≡ Less
nothing_first Null s = refl
nothing_first (Bytes x) s = refl
nothing_first (Text x) s = refl
nothing_first (Int (pos n)) s = refl
nothing_first (Int (negsuc n)) s = refl

nothing_last : (e : Element) (s : List ℕ) → compare (element_spelling e ++ s) [] ≡ Greater
nothing_last Null s = refl
nothing_last (Bytes x) s = refl
nothing_last (Text x) s = refl
nothing_last (Int (pos n)) s = refl
nothing_last (Int (negsuc n)) s = refl

pub tuple_order : (s t : List Element) → AreElements s → AreElements t → compare (spelling s) (spelling t) ≡ compare_tuples s t
tuple_order [] [] hs ht = refl
tuple_order [] (f ∷ t) hs ht = ap (compare []) (flat_map-cons element_spelling f t) ∙ nothing_first f (spelling t)
tuple_order (e ∷ s) [] hs ht = ap (λ (bs : List ℕ). compare bs []) (flat_map-cons element_spelling e s) ∙ nothing_last e (spelling s)
tuple_order (e ∷ s) (f ∷ t) hs ht =
    ap (λ (bs : List ℕ). compare bs (spelling (f ∷ t))) (flat_map-cons element_spelling e s) ∙ ap (compare (element_spelling e ++ spelling s)) (flat_map-cons element_spelling f t) ∙ element_order e f (spelling s) (spelling t) hs.0 ht.0 (spelling_calm s hs.1) (spelling_calm t ht.1) ∙ ap (ordering_then (compare_elements e f)) (tuple_order s t hs.1 ht.1)
