-- Numbers in names: what is read is what was written, and what was written is read again.
use Rattle.std.proofs.Common.{◌≡◌, ℕ, ◌+◌, ◌*◌, ◌-◌, ◌^◌, ◌<◌, ◌≤◌, Bool, true, false, cond, not, ◌&&◌, eqb, ltb, [], ◌∷◌, ◌++◌, length, get_or, take, drop, Option, Some, None, refl, sym, ap, subst, ◌∙◌, arith, rules, inl, inr}
use Rattle.std.specs.Prelude.{decimal}
use Rattle.std.specs.List.{prefix_len}
use Rattle.std.specs.Char.{is_ascii_digit}
use Rattle.std.specs.Int.{IsInRange}
use Rattle.std.specs.Str.{all_ascii_digits}
use Rattle.std.proofs.lemmas.Str.Parse.{IsNumeralModel, numerals_by_fold, tells_all_ascii_digits, digit_at}
use Rattle.std.proofs.lemmas.Fmt.{decimal-digits_value, digits_decimal, digits_value-decimal, decimal_digit, first_decimal, decimal_nonempty}
use Rattle.std.proofs.lemmas.Bool.{cases_Bool, cases_lt, and_parts, and_from, or_cases, or_left, or_right, not-true, not_from_false, eqb-true, eqb-false, eq-eqb, ltb-true, lt-ltb, cond-true, cond-false, le-ltb}
use Rattle.std.proofs.lemmas.List.{drop_more, take_at, drop_at, take-append-drop}
use Rattle.std.proofs.lemmas.List.Sums.{take_while-cons}
use Rattle.fb_bytes.specs.Bytes.{Bytes, is_same}
use Rattle.fb_bytes.specs.Options.{◌>>=◌}
use Rattle.fb_bytes.proofs.Options.{bind_some}
use Rattle.fb_bytes.proofs.Order.{same_eq, same_itself}
use Rattle.file_names.specs.Spelling.{is_number}
use Rattle.file_names.specs.Reading.{after, value_after, is_plain, digits_of, behind_digits, number_of, number_at, number_after}

pub own : IsNumeralModel (λ ds. all_ascii_digits ds ≡ true) (value_after 0)
own = numerals_by_fold _ tells_all_ascii_digits value_after (search rules)

-- ---- steps that may have no result

pub cond_some : {A : Type 0} (b : Bool) (x y : A) → cond b (Some x) None ≡ Some y → (b ≡ true) × (x ≡ y)
cond_some true x y e = (refl, cc)
cond_some false x y e = absurd cc

-- ---- behind a text

pub after_found : (text bytes rest : Bytes) → after text bytes ≡ Some rest → bytes ≡ text ++ rest
unfolding after
after_found text bytes rest e =
    let g = cond_some (is_same (take (length text) bytes) text) (drop (length text) bytes) rest e in
    sym (take-append-drop (length text) bytes) ∙ ap (λ (x : Bytes). x ++ drop (length text) bytes) (same_eq _ _ g.0) ∙ ap (λ (x : Bytes). text ++ x) g.1

pub after_again : (text rest : Bytes) → after text (text ++ rest) ≡ Some rest
unfolding after
after_again text rest = rw (take_at text rest (length text) refl, drop_at text rest (length text) refl, same_itself text) refl

-- ---- the digits in front

digits_go : (c : ℕ) (cs rest : Bytes) (b : Bool) → is_ascii_digit c ≡ b → all_ascii_digits rest ≡ true → all_ascii_digits (cond b (c ∷ rest) []) ≡ true
digits_go c cs rest true e h = and_from (is_ascii_digit c) (all_ascii_digits rest) e h
digits_go c cs rest false e h = refl

pub front_digits : (bytes : Bytes) → all_ascii_digits (digits_of bytes) ≡ true
front_digits [] = refl
front_digits (c ∷ cs) = ap all_ascii_digits (take_while-cons is_ascii_digit c cs) ∙ digits_go c cs (digits_of cs) (is_ascii_digit c) refl (front_digits cs)

-- what follows a number goes on with no digit
abbrev pub StartsOther : Bytes → Type 0
StartsOther [] = Unit {0}
StartsOther (c ∷ cs) = is_ascii_digit c ≡ false

none_in_front : (rest : Bytes) → StartsOther rest → prefix_len is_ascii_digit rest ≡ 0
none_in_front [] other = refl
none_in_front (c ∷ cs) other = cond-false (is_ascii_digit c) (1 + prefix_len is_ascii_digit cs) 0 other

pub digits_in_front : (digits rest : Bytes) → all_ascii_digits digits ≡ true → StartsOther rest → prefix_len is_ascii_digit (digits ++ rest) ≡ length digits
digits_in_front [] rest all other = none_in_front rest other
digits_in_front (c ∷ cs) rest all other =
    let p = and_parts (is_ascii_digit c) (all_ascii_digits cs) all in
    let more = digits_in_front cs rest p.1 other in
    cond-true (is_ascii_digit c) (1 + prefix_len is_ascii_digit (cs ++ rest)) 0 p.0 ∙ omega (arith, more)

-- ---- a number and what stands behind it

plain_means : (digits : Bytes) → is_plain digits ≡ true → get_or digits 0 0 ≡ 48 → length digits ≡ 1
plain_means digits plain zero =
    elim (or_cases (not (eqb (get_or digits 0 0) 48)) (eqb (length digits) 1) plain) [
      | inl other ↦ absurd (eqb-false _ _ (not-true _ other) zero)
      | inr one ↦ eqb-true _ _ one
    ]

plain_from : (digits : Bytes) → (get_or digits 0 0 ≡ 48 → length digits ≡ 1) → is_plain digits ≡ true
plain_from digits h =
    elim (cases_Bool (eqb (get_or digits 0 0) 48)) [
      | inl zero ↦ or_right (not (eqb (get_or digits 0 0) 48)) (eqb (length digits) 1) (eq-eqb _ _ (h (eqb-true _ _ zero)))
      | inr other ↦ or_left (not (eqb (get_or digits 0 0) 48)) (eqb (length digits) 1) (not_from_false _ other)
    ]

number_of_found : (digits : Bytes) (n : ℕ) → all_ascii_digits digits ≡ true → number_of digits ≡ Some n → (decimal n ≡ digits) × (is_number n ≡ true)
unfolding number_of
number_of_found digits n all e =
    let v = value_after 0 digits in
    let g = cond_some (ltb 0 (length digits) && is_plain digits && is_number v) v n e in
    let p = and_parts (ltb 0 (length digits) && is_plain digits) (is_number v) g.0 in
    let q = and_parts (ltb 0 (length digits)) (is_plain digits) p.0 in
    let small : v < 2 ^ 63 = ltb-true _ _ p.1 in
    let same : decimal v ≡ digits = decimal-digits_value own digits all (ltb-true _ _ q.0) (plain_means digits q.1) (omega arith) in
    (ap decimal (sym g.1) ∙ same, ap is_number (sym g.1) ∙ p.1)

plain_decimal : (n : ℕ) → n < 2 ^ 63 → get_or (decimal n) 0 0 ≡ 48 → length (decimal n) ≡ 1
plain_decimal n lt zero =
    elim (cases_lt 0 n) [
      | inl some ↦ (let first : 48 < get_or (decimal n) 0 0 = first_decimal n some (omega arith) in omega arith)
      | inr none ↦ ap length (decimal_digit n (omega arith))
    ]

number_of_again : (n : ℕ) → is_number n ≡ true → number_of (decimal n) ≡ Some n
unfolding number_of
number_of_again n small =
    let lt : n < 2 ^ 63 = ltb-true _ _ small in
    let value : value_after 0 (decimal n) ≡ n = digits_value-decimal own n (omega arith) in
    let some : ltb 0 (length (decimal n)) ≡ true = lt-ltb _ _ (decimal_nonempty n (omega arith)) in
    let plain : is_plain (decimal n) ≡ true = plain_from (decimal n) (plain_decimal n lt) in
    let fits : is_number (value_after 0 (decimal n)) ≡ true = ap is_number value ∙ small in
    let all : (ltb 0 (length (decimal n)) && is_plain (decimal n) && is_number (value_after 0 (decimal n))) ≡ true = and_from (ltb 0 (length (decimal n)) && is_plain (decimal n)) (is_number (value_after 0 (decimal n))) (and_from (ltb 0 (length (decimal n))) (is_plain (decimal n)) some plain) fits in
    cond-true _ (Some (value_after 0 (decimal n))) None all ∙ ap (λ (x : ℕ). Some x) value

pub number_found : (bytes : Bytes) (x : ℕ × Bytes) → number_at bytes ≡ Some x → (bytes ≡ decimal x.0 ++ x.1) × (is_number x.0 ≡ true)
unfolding number_at
number_found bytes x e =
    let a = bind_some (number_of (digits_of bytes)) (λ n. Some (n, behind_digits bytes)) x e in
    let f = number_of_found (digits_of bytes) a.0 (front_digits bytes) a.1 in
    let made : ℕ × Bytes = (a.0, behind_digits bytes) in
    let is : made ≡ x = cc in
    let parts : bytes ≡ decimal a.0 ++ behind_digits bytes = sym (take-append-drop (prefix_len is_ascii_digit bytes) bytes) ∙ ap (λ (d : Bytes). d ++ behind_digits bytes) (sym f.0) in
    subst (λ (y : ℕ × Bytes). (bytes ≡ decimal y.0 ++ y.1) × (is_number y.0 ≡ true)) is (parts, f.1)

pub number_again : (n : ℕ) (rest : Bytes) → is_number n ≡ true → StartsOther rest → number_at (decimal n ++ rest) ≡ Some (n, rest)
unfolding number_at
number_again n rest small other =
    let lt : n < 2 ^ 63 = ltb-true _ _ small in
    let len = digits_in_front (decimal n) rest (digits_decimal own n (omega arith)) other in
    let front : digits_of (decimal n ++ rest) ≡ decimal n = ap (λ (k : ℕ). take k (decimal n ++ rest)) len ∙ take_at (decimal n) rest (length (decimal n)) refl in
    let back : behind_digits (decimal n ++ rest) ≡ rest = ap (λ (k : ℕ). drop k (decimal n ++ rest)) len ∙ drop_at (decimal n) rest (length (decimal n)) refl in
    ap (λ (d : Bytes). number_of d >>= λ m. Some (m, behind_digits (decimal n ++ rest))) front
    ∙ ap (λ (o : Option ℕ). o >>= λ m. Some (m, behind_digits (decimal n ++ rest))) (number_of_again n small)
    ∙ ap (λ (r : Bytes). Some (n, r)) back

pub number_after_found : (text bytes : Bytes) (x : ℕ × Bytes) → number_after text bytes ≡ Some x → (bytes ≡ text ++ (decimal x.0 ++ x.1)) × (is_number x.0 ≡ true)
unfolding number_after
number_after_found text bytes x e =
    let a = bind_some (after text bytes) number_at x e in
    let f = number_found a.0 x a.2 in
    (after_found text bytes a.0 a.1 ∙ ap (λ (r : Bytes). text ++ r) f.0, f.1)

pub number_after_again : (text : Bytes) (n : ℕ) (rest : Bytes) → is_number n ≡ true → StartsOther rest → number_after text (text ++ (decimal n ++ rest)) ≡ Some (n, rest)
unfolding number_after
number_after_again text n rest small other = ap (λ (o : Option Bytes). o >>= number_at) (after_again text (decimal n ++ rest)) ∙ number_again n rest small other

-- ---- digit by digit

value_grows : (n : ℕ) (digits : Bytes) → n ≤ value_after n digits
value_grows n [] = omega arith
value_grows n (c ∷ cs) = let more = value_grows (n * 10 + (c - 48)) cs in omega arith

pub value_goes_on : (digits : Bytes) (i n digit total : ℕ) → i < length digits → digit ≡ get_or digits i 0 → value_after n (drop i digits) ≡ total → value_after (n * 10 + (digit - 48)) (drop (i + 1) digits) ≡ total
value_goes_on digits i n digit total lt is e = rw is (sym (ap (value_after n) (drop_more digits i 0 lt)) ∙ e)

pub value_too_great : (digits : Bytes) (i n digit total : ℕ) → i < length digits → digit ≡ get_or digits i 0 → value_after n (drop i digits) ≡ total → 2 ^ 63 ≤ n * 10 + (digit - 48) → cond (is_number total) (Some total) None ≡ None
value_too_great digits i n digit total lt is e large =
    let on = value_goes_on digits i n digit total lt is e in
    let up = value_grows (n * 10 + (digit - 48)) (drop (i + 1) digits) in
    cond-false (is_number total) (Some total) None (le-ltb _ _ (omega arith))

pub is_digit : (digits : Bytes) (i : ℕ) → all_ascii_digits digits ≡ true → i < length digits → IsInRange 48 57 (get_or digits i 0)
is_digit digits i all lt = digit_at digits i (own.to digits all) lt
