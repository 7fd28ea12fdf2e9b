-- Big-endian bytes and the numbers that they stand for.
use Rattle.std.proofs.Common.{◌≡◌, ℕ, zero, suc, ◌+◌, ◌-◌, ◌*◌, ◌^◌, ◌<◌, ◌≤◌, false, List, [], ◌∷◌, ◌++◌, length, refl, sym, ap, ◌∙◌, arith, rules, inl, inr}
use Rattle.std.specs.declared.cmp.Ordering.TheVariants.{Less, Equal, Greater}
use Rattle.std.specs.Ordering.{nat_cmp, ordering_then}
use Rattle.std.specs.Cmp.Lexicographic.{slice_cmp}
use Rattle.std.specs.Int.{w64, to_be_bytes, from_be_bytes}
use Rattle.std.proofs.lemmas.Nat.{from_be_bytes-to_be_bytes_8}
use Rattle.std.proofs.lemmas.Bool.{cases_order, lt-ltb, le-ltb, eq-eqb, ne_eqb}
use Rattle.std.proofs.Math.Nat.{pow-succ', mul-le-mul_right, pow-le-pow_right}
use Rattle.std.proofs.lemmas.List.{length-append}
use Rattle.fb_bytes.specs.Bytes.{IsBytes}
use Rattle.tuple_keys.specs.Spelling.{without_zeros, digits, complement}
use Rattle.tuple_keys.specs.Reading.{value, has_zero_in_front}

-- ---- the order of two numbers

pub nat_cmp-less : (a b : ℕ) → a < b → nat_cmp a b ≡ Less
nat_cmp-less a b lt = rw (lt-ltb a b lt) refl

pub nat_cmp-same : (a b : ℕ) → a ≡ b → nat_cmp a b ≡ Equal
nat_cmp-same a b e = rw (le-ltb a b (omega arith), eq-eqb a b e) refl

pub nat_cmp-more : (a b : ℕ) → b < a → nat_cmp a b ≡ Greater
nat_cmp-more a b lt = rw (le-ltb a b (omega arith), ne_eqb a b (λ e. omega arith)) refl

-- ---- the value of bytes

pub rest_fits : (b : ℕ) (bytes : List ℕ) → IsBytes (b ∷ bytes) → IsBytes bytes
rest_fits b bytes fits i = fits (suc i)

pub first_fits : (b : ℕ) (bytes : List ℕ) → IsBytes (b ∷ bytes) → b < 256
first_fits b bytes fits = fits 0

pub value-below : (bytes : List ℕ) → IsBytes bytes → value bytes < 256 ^ length bytes
value-below [] fits = omega arith
value-below (b ∷ bytes) fits =
    let p = value-below bytes (rest_fits b bytes fits) in
    let q : b * 256 ^ length bytes ≤ 255 * 256 ^ length bytes = mul-le-mul_right (256 ^ length bytes) (omega (arith, fits 0)) in
    rw pow-succ' (omega arith)

pub value-push : (bytes : List ℕ) (b : ℕ) → value (bytes ++ b ∷ []) ≡ value bytes * 256 + b
value-push [] b = omega arith
value-push (c ∷ bytes) b =
    let p = value-push bytes b in
    let q : length (bytes ++ b ∷ []) ≡ suc (length bytes) = omega (arith, length-append bytes (b ∷ [])) in
    let e : 256 ^ length (bytes ++ b ∷ []) ≡ 256 * 256 ^ length bytes = ap (λ n. 256 ^ n) q ∙ pow-succ' 256 (length bytes) in
    rw e (omega arith)

-- ---- the order of as many bytes is that of their values

place_order : (a b p v w : ℕ) → v < p → w < p → ordering_then (nat_cmp a b) (nat_cmp v w) ≡ nat_cmp (a * p + v) (b * p + w)
place_order a b p v w lv lw = elim (cases_order a b) [
  | inl same ↦ rw (nat_cmp-same a b same) (elim (cases_order v w) [
    | inl e ↦ nat_cmp-same v w e ∙ sym (nat_cmp-same (a * p + v) (b * p + w) (rw same (omega arith)))
    | inr (inl lt) ↦ nat_cmp-less v w lt ∙ sym (nat_cmp-less (a * p + v) (b * p + w) (rw same (omega arith)))
    | inr (inr gt) ↦ nat_cmp-more v w gt ∙ sym (nat_cmp-more (a * p + v) (b * p + w) (rw same (omega arith)))
  ])
  | inr (inl lt) ↦
      (let q : (a + 1) * p ≤ b * p = mul-le-mul_right p (omega arith) in
      rw (nat_cmp-less a b lt) (sym (nat_cmp-less (a * p + v) (b * p + w) (omega arith))))
  | inr (inr gt) ↦
      (let q : (b + 1) * p ≤ a * p = mul-le-mul_right p (omega arith) in
      rw (nat_cmp-more a b gt) (sym (nat_cmp-more (a * p + v) (b * p + w) (omega arith))))
]

pub value-order : (xs ys : List ℕ) → length xs ≡ length ys → IsBytes xs → IsBytes ys → slice_cmp nat_cmp xs ys ≡ nat_cmp (value xs) (value ys)
value-order [] [] e f g = refl
value-order [] (y ∷ ys) e f g = absurd (omega arith)
value-order (x ∷ xs) [] e f g = absurd (omega arith)
value-order (x ∷ xs) (y ∷ ys) e f g =
    let n : length xs ≡ length ys = omega arith in
    let lx = value-below xs (rest_fits x xs f) in
    let ly = value-below ys (rest_fits y ys g) in
    ap (ordering_then (nat_cmp x y)) (value-order xs ys n (rest_fits x xs f) (rest_fits y ys g)) ∙ place_order x y (256 ^ length xs) (value xs) (value ys) lx (rw n ly) ∙ ap (λ k. nat_cmp (x * 256 ^ length xs + value xs) (y * 256 ^ k + value ys)) n

-- With no zero in front more bytes are a greater number.
pub value-longer : (xs ys : List ℕ) → has_zero_in_front ys ≡ false → length xs < length ys → IsBytes xs → value xs < value ys
value-longer xs [] h lt f = absurd (omega arith)
value-longer xs (zero ∷ ys) h lt f = absurd cc
value-longer xs (suc b ∷ ys) h lt f =
    let p = value-below xs f in
    let q : 256 ^ length xs ≤ 256 ^ length ys = pow-le-pow_right (omega arith) (omega arith) in
    let r : 1 * 256 ^ length ys ≤ suc b * 256 ^ length ys = mul-le-mul_right (256 ^ length ys) (omega arith) in
    omega arith

-- ---- bytes that a comparison finds equal are the same

pub same_from_order : (xs ys : List ℕ) → slice_cmp nat_cmp xs ys ≡ Equal → xs ≡ ys
same_from_order [] [] e = refl
same_from_order [] (y ∷ ys) e = absurd cc
same_from_order (x ∷ xs) [] e = absurd cc
same_from_order (x ∷ xs) (y ∷ ys) e = elim (cases_order x y) [
  | inl same ↦
      (let e' : slice_cmp nat_cmp xs ys ≡ Equal = sym (ap (λ o. ordering_then o (slice_cmp nat_cmp xs ys)) (nat_cmp-same x y same)) ∙ e in
      ap (λ k. k ∷ xs) same ∙ ap (λ zs. y ∷ zs) (same_from_order xs ys e'))
  | inr (inl lt) ↦
      (let e' : Less ≡ Equal = sym (ap (λ o. ordering_then o (slice_cmp nat_cmp xs ys)) (nat_cmp-less x y lt)) ∙ e in absurd cc)
  | inr (inr gt) ↦
      (let e' : Greater ≡ Equal = sym (ap (λ o. ordering_then o (slice_cmp nat_cmp xs ys)) (nat_cmp-more x y gt)) ∙ e in absurd cc)
]

-- ---- the digits of a number

-- bytes with no zero in front that stand for a number
pub record AreDigits (n : ℕ) (bytes : List ℕ) : Type 0 where
  pub value_is : value bytes ≡ n
  pub short : length bytes ≤ 8
  pub fits : IsBytes bytes
  pub front : has_zero_in_front bytes ≡ false

pub without_zeros-value : (bytes : List ℕ) → value (without_zeros bytes) ≡ value bytes
without_zeros-value [] = refl
without_zeros-value (zero ∷ bytes) = without_zeros-value bytes ∙ omega arith
without_zeros-value (suc b ∷ bytes) = refl

without_zeros-short : (bytes : List ℕ) → length (without_zeros bytes) ≤ length bytes
without_zeros-short [] = omega arith
without_zeros-short (zero ∷ bytes) = omega (arith, without_zeros-short bytes)
without_zeros-short (suc b ∷ bytes) = omega arith

without_zeros-fits : (bytes : List ℕ) → IsBytes bytes → IsBytes (without_zeros bytes)
without_zeros-fits [] fits = fits
without_zeros-fits (zero ∷ bytes) fits = without_zeros-fits bytes (rest_fits 0 bytes fits)
without_zeros-fits (suc b ∷ bytes) fits = fits

without_zeros-front : (bytes : List ℕ) → has_zero_in_front (without_zeros bytes) ≡ false
without_zeros-front [] = refl
without_zeros-front (zero ∷ bytes) = without_zeros-front bytes
without_zeros-front (suc b ∷ bytes) = ne_eqb (suc b) 0 (λ e. omega arith)

value_eight : (a b c d e f g h : ℕ) → value (a ∷ b ∷ c ∷ d ∷ e ∷ f ∷ g ∷ h ∷ []) ≡ from_be_bytes w64 (a ∷ b ∷ c ∷ d ∷ e ∷ f ∷ g ∷ h ∷ [])
value_eight a b c d e f g h = omega arith

fits_eight : (n : ℕ) → IsBytes (to_be_bytes w64 n)
fits_eight n i = search rules

pub digits_are : (n : ℕ) → n < 2 ^ 64 → AreDigits n (digits n)
unfolding digits
digits_are n lt = record {
  value_is = without_zeros-value (to_be_bytes w64 n) ∙ value_eight _ _ _ _ _ _ _ _ ∙ from_be_bytes-to_be_bytes_8 n lt;
  short = omega (arith, without_zeros-short (to_be_bytes w64 n));
  fits = without_zeros-fits (to_be_bytes w64 n) (fits_eight n);
  front = without_zeros-front (to_be_bytes w64 n);
}

-- A number has one row of digits.
pub digits_unique : (m n : ℕ) (xs ys : List ℕ) → AreDigits m xs → AreDigits n ys → m ≡ n → xs ≡ ys
digits_unique m n xs ys p q e = elim (cases_order (length xs) (length ys)) [
  | inl same ↦ same_from_order xs ys (value-order xs ys same p.fits q.fits ∙ nat_cmp-same (value xs) (value ys) (p.value_is ∙ e ∙ sym q.value_is))
  | inr (inl lt) ↦ absurd (omega (arith, value-longer xs ys q.front lt p.fits, p.value_is, q.value_is))
  | inr (inr gt) ↦ absurd (omega (arith, value-longer ys xs p.front gt q.fits, p.value_is, q.value_is))
]

-- at most eight bytes stand for less than 2 to the 64th
pub value-short : (bytes : List ℕ) → IsBytes bytes → length bytes ≤ 8 → value bytes < 2 ^ 64
value-short bytes fits short =
    let p = value-below bytes fits in
    let q : 256 ^ length bytes ≤ 256 ^ 8 = pow-le-pow_right (omega arith) short in
    omega arith

pub digits-value : (bytes : List ℕ) → IsBytes bytes → length bytes ≤ 8 → has_zero_in_front bytes ≡ false → digits (value bytes) ≡ bytes
digits-value bytes fits short front =
    digits_unique (value bytes) (value bytes) (digits (value bytes)) bytes (digits_are (value bytes) (value-short bytes fits short)) (record { value_is = refl; short = short; fits = fits; front = front }) refl

-- ---- complements

pub complement-fits : (bytes : List ℕ) → IsBytes (complement bytes)
complement-fits [] i = omega arith
complement-fits (b ∷ bytes) zero = omega arith
complement-fits (b ∷ bytes) (suc i) = complement-fits bytes i

pub complement-length : (bytes : List ℕ) → length (complement bytes) ≡ length bytes
complement-length [] = refl
complement-length (b ∷ bytes) = ap suc (complement-length bytes)

pub complement-complement : (bytes : List ℕ) → IsBytes bytes → complement (complement bytes) ≡ bytes
complement-complement [] fits = refl
complement-complement (b ∷ bytes) fits =
    let e : 255 - (255 - b) ≡ b = omega (arith, fits 0) in
    ap (λ k. k ∷ complement (complement bytes)) e ∙ ap (λ bs. b ∷ bs) (complement-complement bytes (rest_fits b bytes fits))
