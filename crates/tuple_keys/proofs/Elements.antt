-- Whole elements and tuples: what is read is spelt so, and what is spelt so is read again.
use Rattle.std.proofs.Common.{◌≡◌, ℕ, zero, suc, ◌+◌, ◌-◌, ◌^◌, ◌<◌, ◌≤◌, Bool, true, false, cond, leb, eqb, ◌&&◌, List, [], ◌∷◌, ◌++◌, length, Ok, Err, refl, sym, ap, subst, ◌∙◌, arith, inl, inr, ◌⊎◌, ℤ, pos, negsuc}
use Rattle.std.specs.Int.RustNames.{unsigned_abs}
use Rattle.std.proofs.lemmas.Bool.{eqb-true, leb-true, and_parts, le-leb, lt-leb, ne_eqb}
use Rattle.std.proofs.lemmas.List.{length-append}
use Rattle.std.proofs.lemmas.List.Concat.{flat_map-cons}
use Rattle.fb_bytes.specs.Bytes.{IsBytes}
use Rattle.tuple_keys.specs.declared.element.Element.{Element}
use Rattle.tuple_keys.specs.declared.element.Element.TheVariants.{Null, Bytes, Text, Int}
use Rattle.tuple_keys.specs.declared.fault.TupleFault.{TupleFault}
use Rattle.tuple_keys.specs.declared.fault.TupleFault.TheVariants.{Code, Open}
use Rattle.tuple_keys.specs.Elements.{IsElement, AreElements}
use Rattle.tuple_keys.specs.Spelling.{digits, complement, int_spelling, element_spelling, spelling}
use Rattle.fb_bytes.specs.Results.{◌>>=◌}
use Rattle.fb_bytes.proofs.Results.{bind_ok}
use Rattle.tuple_keys.specs.Reading.{closed_at, text_of, value, turned, has_zero_in_front, int_at, coded_at, elements_at, reading}
use Rattle.tuple_keys.specs.inner.Reading.{element_at}
use Rattle.tuple_keys.proofs.Values.{digits_are, complement-length, complement-complement}
use Rattle.tuple_keys.proofs.Parts.{ok_is, closed_takes, closed_again, has_mark, text_ok, int_takes, int_again, IsBytes-rest}

-- what a reader of an element took
pub record TakesElement (bytes : List ℕ) (e : Element) (rest : List ℕ) : Type 0 where
  pub parts : bytes ≡ element_spelling e ++ rest
  pub rest_fits : IsBytes rest
  pub fits : IsElement e

abbrev Takes_ : List ℕ → Element × List ℕ → Type 0
Takes_ bytes x = TakesElement bytes x.0 x.1

-- the two ways that a test goes, with the equation
chosen : {A : Type 0} (b : Bool) (x y z : A) → cond b x y ≡ z → ((b ≡ true) × (x ≡ z)) ⊎ ((b ≡ false) × (y ≡ z))
chosen true x y z e = inl (refl, e)
chosen false x y z e = inr (refl, e)

bytes_takes : (at : ℕ) (rest : List ℕ) (x : Element × List ℕ) → IsBytes rest → (closed_at at rest >>= λ y. Ok (Bytes y.0, y.1)) ≡ Ok x → Takes_ (1 ∷ rest) x
bytes_takes at rest x fits e =
    let a = bind_ok (closed_at at rest) (λ y. Ok (Bytes y.0, y.1)) x e in
    let t = closed_takes at rest a.0 fits a.1 in
    subst (Takes_ (1 ∷ rest)) (ok_is (Bytes a.0.0, a.0.1) x a.2) (record { parts = ap (λ (bs : List ℕ). 1 ∷ bs) t.0.parts; rest_fits = t.0.rest_fits; fits = t.1 })

text_takes : (at : ℕ) (rest : List ℕ) (x : Element × List ℕ) → IsBytes rest → (closed_at at rest >>= λ y. text_of at y.0 >>= λ text. Ok (Text text, y.1)) ≡ Ok x → Takes_ (2 ∷ rest) x
text_takes at rest x fits e =
    let a = bind_ok (closed_at at rest) (λ y. text_of at y.0 >>= λ text. Ok (Text text, y.1)) x e in
    let b = bind_ok (text_of at a.0.0) (λ text. Ok (Text text, a.0.1)) x a.2 in
    let t = closed_takes at rest a.0 fits a.1 in
    let u = text_ok at a.0.0 b.0 b.1 in
    let made : Takes_ (2 ∷ rest) (Text a.0.0, a.0.1) = record { parts = ap (λ (bs : List ℕ). 2 ∷ bs) t.0.parts; rest_fits = t.0.rest_fits; fits = (t.1, u.0) } in
    subst (Takes_ (2 ∷ rest)) (ap (λ (text : List ℕ). (Text text, a.0.1)) u.1 ∙ ok_is (Text b.0, a.0.1) x b.2) made

number_takes : (at : ℕ) (negative : Bool) (count code : ℕ) (rest : List ℕ) (x : Element × List ℕ) → IsBytes rest → count ≤ 8 → cond negative (0 < count) (Unit {0}) → code ≡ cond negative (20 - count) (20 + count)
    → (int_at at negative count rest >>= λ y. Ok (Int y.0, y.1)) ≡ Ok x → Takes_ (code ∷ rest) x
number_takes at negative count code rest x fits few some is e =
    let a = bind_ok (int_at at negative count rest) (λ y. Ok (Int y.0, y.1)) x e in
    let t = int_takes at negative count rest a.0 fits few some a.1 in
    subst (Takes_ (code ∷ rest)) (ok_is (Int a.0.0, a.0.1) x a.2) (record { parts = ap (λ (k : ℕ). k ∷ rest) (is ∙ sym t.code_is) ∙ t.parts; rest_fits = t.rest_fits; fits = t.small })

pub element_takes : (at code : ℕ) (rest : List ℕ) (x : Element × List ℕ) → IsBytes rest → coded_at at code rest ≡ Ok x → Takes_ (code ∷ rest) x
unfolding coded_at
element_takes at code rest x fits e = elim (chosen (eqb code 0) _ _ _ e) [
  | inl h ↦ subst (Takes_ (code ∷ rest)) (ok_is (Null, rest) x h.1) (record { parts = ap (λ (k : ℕ). k ∷ rest) (eqb-true _ _ h.0); rest_fits = fits; fits = tt })
  | inr h0 ↦ elim (chosen (eqb code 1) _ _ _ h0.1) [
    | inl h ↦ subst (λ (k : ℕ). Takes_ (k ∷ rest) x) (sym (eqb-true _ _ h.0)) (bytes_takes at rest x fits h.1)
    | inr h1 ↦ elim (chosen (eqb code 2) _ _ _ h1.1) [
      | inl h ↦ subst (λ (k : ℕ). Takes_ (k ∷ rest) x) (sym (eqb-true _ _ h.0)) (text_takes at rest x fits h.1)
      | inr h2 ↦ elim (chosen (leb 12 code && leb code 19) _ _ _ h2.1) [
        | inl h ↦
            (let p = and_parts (leb 12 code) (leb code 19) h.0 in
            let low : 12 ≤ code = leb-true _ _ p.0 in
            let high : code ≤ 19 = leb-true _ _ p.1 in
            number_takes at true (20 - code) code rest x fits (omega arith) (omega arith) (omega arith) h.1)
        | inr h3 ↦ elim (chosen (leb 20 code && leb code 28) _ _ _ h3.1) [
          | inl h ↦
              (let p = and_parts (leb 20 code) (leb code 28) h.0 in
              let low : 20 ≤ code = leb-true _ _ p.0 in
              let high : code ≤ 28 = leb-true _ _ p.1 in
              number_takes at false (code - 20) code rest x fits (omega arith) tt (omega arith) h.1)
          | inr h4 ↦ absurd (bad (Code at) x h4.1)
        ]
      ]
    ]
  ]
]
  where
    bad : (f : TupleFault) (x : Element × List ℕ) → Err f ≡ Ok x → ⊥
    bad f x e = cc

-- ---- what is spelt so is read again

positive_at : (at code : ℕ) (rest : List ℕ) → 20 ≤ code → code ≤ 28 → coded_at at code rest ≡ (int_at at false (code - 20) rest >>= λ x. Ok (Int x.0, x.1))
unfolding coded_at
positive_at at code rest low high =
    rw (ne_eqb code 0 (λ e. omega arith), ne_eqb code 1 (λ e. omega arith), ne_eqb code 2 (λ e. omega arith), le-leb 12 code (omega arith), lt-leb code 19 (omega arith), le-leb 20 code low, le-leb code 28 high) refl

negative_at : (at code : ℕ) (rest : List ℕ) → 12 ≤ code → code ≤ 19 → coded_at at code rest ≡ (int_at at true (20 - code) rest >>= λ x. Ok (Int x.0, x.1))
unfolding coded_at
negative_at at code rest low high =
    rw (ne_eqb code 0 (λ e. omega arith), ne_eqb code 1 (λ e. omega arith), ne_eqb code 2 (λ e. omega arith), le-leb 12 code low, le-leb code 19 high) refl

int_back : (at : ℕ) (n : ℤ) (rest : List ℕ) → unsigned_abs n < 2 ^ 64 → element_at at (int_spelling n ++ rest) ≡ Ok (Int n, rest)
int_back at (pos n) rest lt =
    let d = digits_are n lt in
    let ds = digits n in
    let e : 20 + length ds - 20 ≡ length ds = omega arith in
    positive_at at (20 + length ds) (ds ++ rest) (omega arith) (omega (arith, d.short)) ∙ rw (e, int_again at false ds rest d.front, d.value_is) refl
int_back at (negsuc n) rest lt =
    let d = digits_are (suc n) (omega arith) in
    let ds = digits (suc n) in
    let some : 0 < length ds = has_digits (suc n) ds d.value_is (omega arith) in
    let short : length ds ≤ 8 = d.short in
    let back : complement (complement ds) ≡ ds = complement-complement ds d.fits in
    let nz : has_zero_in_front (turned true (complement ds)) ≡ false = ap has_zero_in_front back ∙ d.front in
    let e : 20 - (20 - length ds) ≡ length (complement ds) = omega (arith, complement-length ds) in
    let v : value (complement (complement ds)) ≡ suc n = ap value back ∙ d.value_is in
    negative_at at (20 - length ds) (complement ds ++ rest) (omega arith) (omega arith) ∙ rw (e, int_again at true (complement ds) rest nz, v) refl
  where
    has_digits : (m : ℕ) (ds : List ℕ) → value ds ≡ m → 0 < m → 0 < length ds
    has_digits m [] e lt = absurd (omega arith)
    has_digits m (d ∷ ds) e lt = omega arith

pub element_again : (at : ℕ) (e : Element) (rest : List ℕ) → IsElement e → has_mark rest ≡ false → element_at at (element_spelling e ++ rest) ≡ Ok (e, rest)
unfolding coded_at
element_again at Null rest fits free = refl
element_again at (Bytes bytes) rest fits free = rw (closed_again at bytes rest free) refl
element_again at (Text text) rest fits free = rw (closed_again at text rest free, fits.1) refl
element_again at (Int n) rest fits free = int_back at n rest fits

-- ---- tuples

int_code : (n : ℤ) (rest : List ℕ) → unsigned_abs n < 2 ^ 64 → has_mark (int_spelling n ++ rest) ≡ false
int_code (pos n) rest lt = ne_eqb (20 + length (digits n)) 255 (λ e. omega (arith, (digits_are n lt).short))
int_code (negsuc n) rest lt = ne_eqb (20 - length (digits (suc n))) 255 (λ e. omega arith)

element_unmarked : (e : Element) (rest : List ℕ) → IsElement e → has_mark (element_spelling e ++ rest) ≡ false
element_unmarked Null rest fits = refl
element_unmarked (Bytes bytes) rest fits = refl
element_unmarked (Text text) rest fits = refl
element_unmarked (Int n) rest fits = int_code n rest fits

pub spelling_unmarked : (es : List Element) → AreElements es → has_mark (spelling es) ≡ false
spelling_unmarked [] fits = refl
spelling_unmarked (e ∷ es) fits = ap has_mark (flat_map-cons element_spelling e es) ∙ element_unmarked e (spelling es) fits.0

pub elements_take : (total most : ℕ) (bytes : List ℕ) (es : List Element) → IsBytes bytes → elements_at total most bytes ≡ Ok es → AreElements es × (bytes ≡ spelling es)
unfolding elements_at
elements_take total most [] es fits e = subst (λ (v : List Element). AreElements v × ([] ≡ spelling v)) (ok_is [] es e) (tt, refl)
elements_take total zero (code ∷ rest) es fits e = absurd cc
elements_take total (suc most) (code ∷ rest) es fits e =
    let a = bind_ok (coded_at (total - (length rest + 1)) code rest) (λ x. elements_at total most x.1 >>= λ es. Ok (x.0 ∷ es)) es e in
    let b = bind_ok (elements_at total most a.0.1) (λ es. Ok (a.0.0 ∷ es)) es a.2 in
    let t = element_takes (total - (length rest + 1)) code rest a.0 (IsBytes-rest code rest fits) a.1 in
    let u = elements_take total most a.0.1 b.0 t.rest_fits b.1 in
    subst (λ (v : List Element). AreElements v × (code ∷ rest ≡ spelling v)) (ok_is (a.0.0 ∷ b.0) es b.2)
    ((t.fits, u.0), t.parts ∙ ap (λ (r : List ℕ). element_spelling a.0.0 ++ r) u.1 ∙ sym (flat_map-cons element_spelling a.0.0 b.0))

-- one step over bytes that begin with a spelling
step_again : (total most : ℕ) (e : Element) (es : List Element) (bytes rest : List ℕ) → ((at : ℕ) → element_at at bytes ≡ Ok (e, rest)) → elements_at total most rest ≡ Ok es → elements_at total (suc most) bytes ≡ Ok (e ∷ es)
unfolding elements_at
step_again total most e es [] rest h ih = absurd (bad (Open 0) (e, rest) (h 0))
  where
    bad : (f : TupleFault) (x : Element × List ℕ) → Err f ≡ Ok x → ⊥
    bad f x e = cc
step_again total most e es (code ∷ bytes) rest h ih = rw (h (total - (length bytes + 1)), ih) refl

pub elements_again : (total most : ℕ) (es : List Element) → AreElements es → length es ≤ most → elements_at total most (spelling es) ≡ Ok es
unfolding elements_at
elements_again total most [] fits few = refl
elements_again total zero (e ∷ es) fits few = absurd (omega arith)
elements_again total (suc most) (e ∷ es) fits few =
    ap (elements_at total (suc most)) (flat_map-cons element_spelling e es) ∙ step_again total most e es (element_spelling e ++ spelling es) (spelling es) (λ at. element_again at e (spelling es) fits.0 (spelling_unmarked es fits.1)) (elements_again total most es fits.1 (omega arith))

pub element_long : (e : Element) → 0 < length (element_spelling e)
element_long Null = omega arith
element_long (Bytes bytes) = omega arith
element_long (Text text) = omega arith
element_long (Int (pos n)) = omega arith
element_long (Int (negsuc n)) = omega arith

spelling_long : (es : List Element) → length es ≤ length (spelling es)
spelling_long [] = omega arith
spelling_long (e ∷ es) =
    let p = element_long e in
    let q = spelling_long es in
    let r : length (spelling (e ∷ es)) ≡ length (element_spelling e) + length (spelling es) = ap length (flat_map-cons element_spelling e es) ∙ length-append (element_spelling e) (spelling es) in
    omega arith

pub reading_takes : (bytes : List ℕ) (es : List Element) → IsBytes bytes → reading bytes ≡ Ok es → AreElements es × (bytes ≡ spelling es)
unfolding reading
reading_takes bytes es fits e = elements_take (length bytes) (length bytes) bytes es fits e

pub reading_again : (es : List Element) → AreElements es → reading (spelling es) ≡ Ok es
unfolding reading
reading_again es fits = elements_again (length (spelling es)) (length (spelling es)) es fits (spelling_long es)
