-- The byte order of keys, and the key that bytes are.
use Rattle.std.proofs.Common.{◌≡◌, ℕ, ◌<◌, ◌^◌, Bool, true, false, cond, ◌&&◌, ◌||◌, eqb, ltb, [], ◌∷◌, ◌++◌, length, take, drop, refl, sym, ap, ◌∙◌, subst, arith, rules}
use Rattle.std.specs.Int.{w32, w64, to_be_bytes, from_be_bytes}
use Rattle.std.specs.declared.cmp.Ordering.{Ordering}
use Rattle.std.specs.declared.cmp.Ordering.TheVariants.{Less, Equal, Greater}
use Rattle.std.specs.Ordering.{nat_cmp, ordering_then, is_lt}
use Rattle.std.specs.Cmp.Lexicographic.{slice_cmp}
use Rattle.std.proofs.lemmas.Nat.{from_be_bytes-to_be_bytes_4, from_be_bytes-to_be_bytes_8}
use Rattle.fb_bytes.specs.Bytes.{Bytes, IsBytes, is_below}
use Rattle.tuple_keys.specs.Reading.{value}
use Rattle.tuple_keys.proofs.Values.{value-order}
use Rattle.log_keys.specs.Keys.{Key, Fits, prefix, key_bytes, key_in, is_key_below}

abbrev compare : Bytes → Bytes → Ordering
compare = slice_cmp nat_cmp

then_assoc : (a b c : Ordering) → ordering_then a (ordering_then b c) ≡ ordering_then (ordering_then a b) c
then_assoc Less b c = refl
then_assoc Equal b c = refl
then_assoc Greater b c = refl

compare-append : (xs ys s t : Bytes) → length xs ≡ length ys → compare (xs ++ s) (ys ++ t) ≡ ordering_then (compare xs ys) (compare s t)
compare-append [] [] s t e = refl
compare-append [] (y ∷ ys) s t e = absurd (omega arith)
compare-append (x ∷ xs) [] s t e = absurd (omega arith)
compare-append (x ∷ xs) (y ∷ ys) s t e = ap (ordering_then (nat_cmp x y)) (compare-append xs ys s t (omega arith)) ∙ then_assoc (nat_cmp x y) (compare xs ys) (compare s t)

-- ---- numbers

value_eight : (a b c d e f g h : ℕ) → value (a ∷ b ∷ c ∷ d ∷ e ∷ f ∷ g ∷ h ∷ []) ≡ from_be_bytes w64 (a ∷ b ∷ c ∷ d ∷ e ∷ f ∷ g ∷ h ∷ [])
value_eight a b c d e f g h = omega arith

value_four : (a b c d : ℕ) → value (a ∷ b ∷ c ∷ d ∷ []) ≡ from_be_bytes w32 (a ∷ b ∷ c ∷ d ∷ [])
value_four a b c d = omega arith

fits_eight : (n : ℕ) → IsBytes (to_be_bytes w64 n)
fits_eight n i = search rules

fits_four : (n : ℕ) → IsBytes (to_be_bytes w32 n)
fits_four n i = search rules

eight_is : (n : ℕ) → n < 2 ^ 64 → value (to_be_bytes w64 n) ≡ n
eight_is n lt = value_eight _ _ _ _ _ _ _ _ ∙ from_be_bytes-to_be_bytes_8 n lt

four_is : (n : ℕ) → n < 2 ^ 32 → value (to_be_bytes w32 n) ≡ n
four_is n lt = value_four _ _ _ _ ∙ from_be_bytes-to_be_bytes_4 n lt

eight_order : (m n : ℕ) → m < 2 ^ 64 → n < 2 ^ 64 → compare (to_be_bytes w64 m) (to_be_bytes w64 n) ≡ nat_cmp m n
eight_order m n lm ln =
    value-order (to_be_bytes w64 m) (to_be_bytes w64 n) refl (fits_eight m) (fits_eight n) ∙ ap (λ (k : ℕ). nat_cmp k (value (to_be_bytes w64 n))) (eight_is m lm) ∙ ap (nat_cmp m) (eight_is n ln)

four_order : (m n : ℕ) → m < 2 ^ 32 → n < 2 ^ 32 → compare (to_be_bytes w32 m) (to_be_bytes w32 n) ≡ nat_cmp m n
four_order m n lm ln =
    value-order (to_be_bytes w32 m) (to_be_bytes w32 n) refl (fits_four m) (fits_four n) ∙ ap (λ (k : ℕ). nat_cmp k (value (to_be_bytes w32 n))) (four_is m lm) ∙ ap (nat_cmp m) (four_is n ln)

-- ---- keys

cases_below : (p q r s t u : Bool) → is_lt (ordering_then (ordering_then (cond p Less (cond q Equal Greater)) (cond r Less (cond s Equal Greater))) (cond t Less (cond u Equal Greater))) ≡ p || (q && (r || (s && t)))
cases_below true q r s t u = refl
cases_below false true true s t u = refl
cases_below false true false true true u = refl
cases_below false true false true false true = refl
cases_below false true false true false false = refl
cases_below false true false false t u = refl
cases_below false false r s t u = refl

below_is : (a b : Key) → is_lt (ordering_then (ordering_then (nat_cmp a.job b.job) (nat_cmp a.version b.version)) (nat_cmp a.part b.part)) ≡ is_key_below a b
below_is a b = cases_below (ltb a.job b.job) (eqb a.job b.job) (ltb a.version b.version) (eqb a.version b.version) (ltb a.part b.part) (eqb a.part b.part)

compare_is : (a b : Key) → Fits a → Fits b → compare (key_bytes a) (key_bytes b) ≡ ordering_then (ordering_then (nat_cmp a.job b.job) (nat_cmp a.version b.version)) (nat_cmp a.part b.part)
unfolding key_bytes
compare_is a b f g =
    let x = to_be_bytes w64 a.job in
    let y = to_be_bytes w64 b.job in
    let v = to_be_bytes w64 a.version in
    let w = to_be_bytes w64 b.version in
    let p = to_be_bytes w32 a.part in
    let q = to_be_bytes w32 b.part in
    compare-append (prefix ++ x ++ v) (prefix ++ y ++ w) p q refl
    ∙ ap (λ (o : Ordering). ordering_then o (compare p q)) (compare-append (prefix ++ x) (prefix ++ y) v w refl)
    ∙ ap (λ (o : Ordering). ordering_then (ordering_then o (compare v w)) (compare p q)) (compare-append prefix prefix x y refl)
    ∙ ap (λ (o : Ordering). ordering_then (ordering_then o (compare v w)) (compare p q)) (eight_order a.job b.job f.job g.job)
    ∙ ap (λ (o : Ordering). ordering_then (ordering_then (nat_cmp a.job b.job) o) (compare p q)) (eight_order a.version b.version f.version g.version)
    ∙ ap (λ (o : Ordering). ordering_then (ordering_then (nat_cmp a.job b.job) (nat_cmp a.version b.version)) o) (four_order a.part b.part f.part g.part)

pub key_order : (a b : Key) → Fits a → Fits b → is_below (key_bytes a) (key_bytes b) ≡ is_key_below a b
unfolding is_below
key_order a b f g = ap is_lt (compare_is a b f g) ∙ below_is a b

-- ---- the key that bytes are

abbrev made : ℕ → ℕ → ℕ → Key
made job version part = record { job = job; version = version; part = part }

pub key_again : (key : Key) → Fits key → key_in (key_bytes key) ≡ key
unfolding key_bytes key_in
key_again key f =
    ap (λ (n : ℕ). made n (from_be_bytes w64 (to_be_bytes w64 key.version)) (from_be_bytes w32 (to_be_bytes w32 key.part))) (from_be_bytes-to_be_bytes_8 key.job f.job)
    ∙ ap (λ (n : ℕ). made key.job n (from_be_bytes w32 (to_be_bytes w32 key.part))) (from_be_bytes-to_be_bytes_8 key.version f.version)
    ∙ ap (made key.job key.version) (from_be_bytes-to_be_bytes_4 key.part f.part)

pub key_length : (key : Key) → length (key_bytes key) ≡ 28
unfolding key_bytes
key_length key = refl

-- the bytes of a key, seen as the key
pub key_is : (bytes : Bytes) (key : Key) → Fits key → bytes ≡ key_bytes key → key_in bytes ≡ key
key_is bytes key f e = ap key_in e ∙ key_again key f

pub is_key : (bytes : Bytes) (key : Key) → Fits key → bytes ≡ key_bytes key → (bytes ≡ key_bytes (key_in bytes)) × Fits (key_in bytes)
is_key bytes key f e = let s = sym (key_is bytes key f e) in (e ∙ ap key_bytes s, subst Fits s f)

pub job_is : (bytes : Bytes) (key : Key) → key_in bytes ≡ key → from_be_bytes w64 (take 8 (drop 8 bytes)) ≡ key.job
unfolding key_in
job_is bytes key e = ap (λ (k : Key). k.job) e

pub version_is : (bytes : Bytes) (key : Key) → key_in bytes ≡ key → from_be_bytes w64 (take 8 (drop 16 bytes)) ≡ key.version
unfolding key_in
version_is bytes key e = ap (λ (k : Key). k.version) e
