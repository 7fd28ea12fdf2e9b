-- Byte strings as numbers: prefixes, bounds, sums and comparisons.
use Rattle.std.proofs.Common.{◌≡◌, ℕ, zero, suc, ◌+◌, ◌*◌, ◌/◌, ◌%◌, ◌^◌, ◌<◌, ◌≤◌, [], ◌∷◌, ◌++◌, length, get_or, take, set, reverse, refl, sym, ◌∙◌, ap, arith, add-one, lit<}
use Rattle.std.proofs.Math.Arith.{mod-mul}
use Rattle.std.proofs.Math.Nat.{pow-suc}
use Rattle.std.proofs.lemmas.Cmp.{ranked}
use Rattle.std.proofs.lemmas.Grind.{reverse_onto}
use Rattle.std.proofs.lemmas.List.{take_more_set, take_all, get_or-set_other, length-take-le, length-reverse}
use Rattle.std.proofs.lemmas.Nat.{mod-mul-add, div-mul-add, mod_below}
use Rattle.std.specs.Cmp.{nat_cmp_is}
use Rattle.std.specs.Cmp.Lexicographic.{slice_cmp}
use Rattle.std.specs.Ordering.{MatchOrdering, nat_cmp, ordering_then}
use Rattle.std.specs.declared.cmp.Ordering.{Ordering}
use Rattle.std.specs.declared.cmp.Ordering.TheVariants.{Less, Equal, Greater}
use Rattle.atomic_ops.specs.Bytes.{Bytes, IsBytes}
use Rattle.atomic_ops.specs.Numbers.{number, number_bytes, sum_bytes}

-- n bytes hold the numbers below 256 ^ n
pub number-below : (xs : Bytes) → IsBytes xs → number xs < 256 ^ length xs
number-below [] h = lit< tt
number-below (x ∷ xs) h =
    let first : x < 256 = h 0 in
    let rest : number xs < 256 ^ length xs = number-below xs (λ i. h (suc i)) in
    rw (pow-suc 256 (length xs)) (omega arith)

pub number-append : (xs ys : Bytes) → number (xs ++ ys) ≡ number xs + 256 ^ length xs * number ys
number-append [] ys = omega arith
number-append (x ∷ xs) ys =
    let rest : number (xs ++ ys) ≡ number xs + 256 ^ length xs * number ys = number-append xs ys in
    rw (pow-suc 256 (length xs)) (omega arith)

pub number-more : (xs : Bytes) (i : ℕ) → number (take (suc i) xs) ≡ number (take i xs) + 256 ^ i * get_or xs i 0
number-more [] zero = refl
number-more [] (suc i) = omega arith
number-more (x ∷ xs) zero = omega arith
number-more (x ∷ xs) (suc i) =
    let rest : number (take (suc i) xs) ≡ number (take i xs) + 256 ^ i * get_or xs i 0 = number-more xs i in
    rw (pow-suc 256 i) (omega arith)

-- a byte put past a prefix
pub number-put : (xs : Bytes) (i y : ℕ) → i < length xs → number (take (i + 1) (set xs i y)) ≡ number (take i xs) + 256 ^ i * y
number-put xs i y h =
    let long : length (take i xs) ≡ i = length-take-le i xs (omega arith) in
    ap number (take_more_set xs i y h) ∙ number-append (take i xs) (y ∷ []) ∙ rw long (omega arith)

-- the bytes at a place, summed with what was carried to it
pub column : (p a b c d e s t r : ℕ) → s + p * c ≡ t + r → a + b + c ≡ d + 256 * e → (s + p * d) + p * 256 * e ≡ (t + p * a) + (r + p * b)
column p a b c d e s t r before sum =
    let scaled : p * (a + b + c) ≡ p * (d + 256 * e) = ap (λ n. p * n) sum in
    omega (arith, scaled)

-- ---- comparisons from the highest byte down

then_assoc : (o p q : Ordering) → ordering_then (ordering_then o p) q ≡ ordering_then o (ordering_then p q)
then_assoc Less p q = refl
then_assoc Equal p q = refl
then_assoc Greater p q = refl

slice_cmp-append : (ws xs ys zs : Bytes) → length ws ≡ length xs
    → slice_cmp nat_cmp (ws ++ ys) (xs ++ zs) ≡ ordering_then (slice_cmp nat_cmp ws xs) (slice_cmp nat_cmp ys zs)
slice_cmp-append [] [] ys zs h = refl
slice_cmp-append [] (b ∷ xs) ys zs h = absurd (omega arith)
slice_cmp-append (a ∷ ws) [] ys zs h = absurd (omega arith)
slice_cmp-append (a ∷ ws) (b ∷ xs) ys zs h =
    ap (ordering_then (nat_cmp a b)) (slice_cmp-append ws xs ys zs (omega arith))
    ∙ sym (then_assoc (nat_cmp a b) (slice_cmp nat_cmp ws xs) (slice_cmp nat_cmp ys zs))

same_high : (x y m n : ℕ) → m ≡ n → nat_cmp x y ≡ nat_cmp (x + 256 * m) (y + 256 * n)
same_high x y m n h = nat_cmp_is (x + 256 * m) (y + 256 * n) (nat_cmp x y) (by (nat_cmp x y) (ranked x y (nat_cmp x y) refl))
  where
    by : (o : Ordering) → MatchOrdering o (x < y) (x ≡ y) (y < x) → MatchOrdering o (x + 256 * m < y + 256 * n) (x + 256 * m ≡ y + 256 * n) (y + 256 * n < x + 256 * m)
    by Less e = omega arith
    by Equal e = omega arith
    by Greater e = omega arith

-- the high part decides, and then the byte below it
cmp-digit : (x y m n : ℕ) → x < 256 → y < 256 → ordering_then (nat_cmp m n) (nat_cmp x y) ≡ nat_cmp (x + 256 * m) (y + 256 * n)
cmp-digit x y m n hx hy = by (nat_cmp m n) (ranked m n (nat_cmp m n) refl)
  where
    by : (o : Ordering) → MatchOrdering o (m < n) (m ≡ n) (n < m) → ordering_then o (nat_cmp x y) ≡ nat_cmp (x + 256 * m) (y + 256 * n)
    by Less e = nat_cmp_is (x + 256 * m) (y + 256 * n) Less (omega arith)
    by Equal e = same_high x y m n e
    by Greater e = nat_cmp_is (x + 256 * m) (y + 256 * n) Greater (omega arith)

pub cmp-reverse : (xs ys : Bytes) → IsBytes xs → IsBytes ys → length xs ≡ length ys
    → slice_cmp nat_cmp (reverse xs) (reverse ys) ≡ nat_cmp (number xs) (number ys)
cmp-reverse [] [] hx hy h = refl
cmp-reverse [] (y ∷ ys) hx hy h = absurd (omega arith)
cmp-reverse (x ∷ xs) [] hx hy h = absurd (omega arith)
cmp-reverse (x ∷ xs) (y ∷ ys) hx hy h =
    let rest : slice_cmp nat_cmp (reverse xs) (reverse ys) ≡ nat_cmp (number xs) (number ys) = cmp-reverse xs ys (λ i. hx (suc i)) (λ i. hy (suc i)) (omega arith) in
    let long : length (reverse xs) ≡ length (reverse ys) = length-reverse xs ∙ omega arith ∙ sym (length-reverse ys) in
    ap2 (reverse_onto xs x []) (reverse_onto ys y [])
    ∙ slice_cmp-append (reverse xs) (reverse ys) (x ∷ []) (y ∷ []) long
    ∙ ap (λ o. ordering_then o (ordering_then (nat_cmp x y) Equal)) rest
    ∙ ap (ordering_then (nat_cmp (number xs) (number ys))) (then_equal (nat_cmp x y))
    ∙ cmp-digit x y (number xs) (number ys) (hx 0) (hy 0)
  where
    ap2 : {a b c d : Bytes} → a ≡ b → c ≡ d → slice_cmp nat_cmp a c ≡ slice_cmp nat_cmp b d
    ap2 p q = λ i. slice_cmp nat_cmp (p i) (q i)

    then_equal : (o : Ordering) → ordering_then o Equal ≡ o
    then_equal Less = refl
    then_equal Equal = refl
    then_equal Greater = refl

-- ---- numbers as bytes

pub length-number_bytes : (n x : ℕ) → length (number_bytes n x) ≡ n
length-number_bytes zero x = refl
length-number_bytes (suc n) x = ap suc (length-number_bytes n (x / 256))

pub number_bytes_are_bytes : (n x : ℕ) → IsBytes (number_bytes n x)
number_bytes_are_bytes zero x i = lit< tt
number_bytes_are_bytes (suc n) x zero = mod_below x 256 (lit< tt)
number_bytes_are_bytes (suc n) x (suc i) = number_bytes_are_bytes n (x / 256) i

-- bytes are those of their number
pub number_bytes-number : (xs : Bytes) → IsBytes xs → number_bytes (length xs) (number xs) ≡ xs
number_bytes-number [] h = refl
number_bytes-number (x ∷ xs) h =
    let small : x < 256 = h 0 in
    let low : (x + 256 * number xs) % 256 ≡ x = ap (λ n. n % 256) (omega arith) ∙ mod-mul-add (number xs) 256 x small in
    let high : (x + 256 * number xs) / 256 ≡ number xs = ap (λ n. n / 256) (omega arith) ∙ div-mul-add (number xs) 256 x small in
    let rest : number_bytes (length xs) (number xs) ≡ xs = number_bytes-number xs (λ i. h (suc i)) in
    λ i. low i ∷ (ap (number_bytes (length xs)) high ∙ rest) i

pow_positive : (n : ℕ) → 0 < 256 ^ n
pow_positive zero = lit< tt
pow_positive (suc n) = let rest : 0 < 256 ^ n = pow_positive n in rw (pow-suc 256 n) (omega arith)

pub number-number_bytes : (n x : ℕ) → number (number_bytes n x) ≡ x % 256 ^ n
number-number_bytes zero x = sym (mod_one x)
  where
    mod_one : (x : ℕ) → x % 1 ≡ 0
    mod_one x = let below : x % 1 < 1 = mod_below x 1 (lit< tt) in omega arith
number-number_bytes (suc n) x =
    let rest : number (number_bytes n (x / 256)) ≡ (x / 256) % 256 ^ n = number-number_bytes n (x / 256) in
    let split : x % (256 ^ n * 256) ≡ (x / 256 % 256 ^ n) * 256 + x % 256 = mod-mul x (pow_positive n) (lit< tt) in
    ap (λ k. x % 256 + 256 * k) rest ∙ rw (pow-suc 256 n) (omega arith)

pub same_number : (xs ys : Bytes) → IsBytes xs → IsBytes ys → length xs ≡ length ys → number xs ≡ number ys → xs ≡ ys
same_number xs ys hx hy long same =
    sym (number_bytes-number xs hx) ∙ (λ i. number_bytes (long i) (same i)) ∙ number_bytes-number ys hy

-- ---- the sum of two numbers, a byte at a time

-- below place i the total has the sum, but for what is carried; from there on it is as it was
pub record AddsUp (first more total : Bytes) (i carry : ℕ) : Type 0 where
  pub below : number (take i total) + 256 ^ i * carry ≡ number (take i first) + number (take i more)
  pub rest : (k : ℕ) → i ≤ k → get_or total k 0 ≡ get_or first k 0
  pub small : carry ≤ 1
  pub bytes : IsBytes total

bytes_put : (xs : Bytes) (i y : ℕ) → IsBytes xs → y < 256 → IsBytes (set xs i y)
bytes_put [] i y h small k = lit< tt
bytes_put (x ∷ xs) zero y h small zero = small
bytes_put (x ∷ xs) zero y h small (suc k) = h (suc k)
bytes_put (x ∷ xs) (suc i) y h small zero = h 0
bytes_put (x ∷ xs) (suc i) y h small (suc k) = bytes_put xs i y (λ j. h (suc j)) small k

pub adds_up_more : (first more total : Bytes) (i carry sum : ℕ) → AddsUp first more total i carry → i < length total
    → sum ≡ get_or total i 0 + get_or more i 0 + carry → sum < 512 → AddsUp first more (set total i (sum % 256)) (i + 1) (sum / 256)
adds_up_more first more total i carry sum h inside is few =
    let same : get_or total i 0 ≡ get_or first i 0 = h.rest i (omega arith) in
    let put : number (take (i + 1) (set total i (sum % 256))) ≡ number (take i total) + 256 ^ i * (sum % 256) = number-put total i (sum % 256) inside in
    let one : number (take (i + 1) first) ≡ number (take i first) + 256 ^ i * get_or first i 0 = rw add-one (number-more first i) in
    let two : number (take (i + 1) more) ≡ number (take i more) + 256 ^ i * get_or more i 0 = rw add-one (number-more more i) in
    let power : 256 ^ (i + 1) ≡ 256 ^ i * 256 = rw add-one (pow-suc 256 i) in
    let added = column (256 ^ i) (get_or first i 0) (get_or more i 0) carry (sum % 256) (sum / 256) (number (take i total)) (number (take i first)) (number (take i more)) h.below (omega arith) in
    record {
      below = rw (put, one, two, power) added;
      rest = λ k past. get_or-set_other total i k (sum % 256) 0 (λ e. omega arith) ∙ h.rest k (omega arith);
      small = omega arith;
      bytes = bytes_put total i (sum % 256) h.bytes (mod_below sum 256 (lit< tt));
    }

pub adds_up_all : (first more total : Bytes) (i carry : ℕ) → AddsUp first more total i carry
    → length first ≡ i → length more ≡ i → length total ≡ i → total ≡ sum_bytes first more
adds_up_all first more total i carry h long_first long_more long =
    let all : number total + 256 ^ i * carry ≡ number first + number more =
    rw (← ap number (take_all i total (omega arith)), ← ap number (take_all i first (omega arith)), ← ap number (take_all i more (omega arith))) h.below in
    let below : number total < 256 ^ i = rw (← long) (number-below total h.bytes) in
    let is : number total ≡ (number first + number more) % 256 ^ i =
    sym (mod-mul-add carry (256 ^ i) (number total) below) ∙ ap (λ n. n % 256 ^ i) (omega (arith, all)) in
    sym (number_bytes-number total h.bytes) ∙ ap2 long is ∙ rw long_more refl
  where
    ap2 : {m n x y : ℕ} → m ≡ n → x ≡ y → number_bytes m x ≡ number_bytes n y
    ap2 p q = λ i. number_bytes (p i) (q i)
