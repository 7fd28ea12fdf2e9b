-- The word that is printed, and the hexadecimal digits in words.
use Rattle.std.proofs.Common.{◌≡◌, ℕ, suc, ◌+◌, ◌*◌, ◌/◌, ◌%◌, ◌<◌, ◌≤◌, [], ◌∷◌, ◌++◌, length, take, take_all, get_or, slice_index, Option, Some, None, Result, Ok, Err, MatchResult, inl, inr, refl, sym, ap, ◌∙◌, arith, append_assoc, append-nil}
use Rattle.std.proofs.lemmas.List.{take_more}
use Rattle.std.proofs.lemmas.Bool.{cond_both}
use Rattle.std.specs.Result.{result_ok}
use Rattle.hex.specs.Hex.{hex_digit_value, lower_digits, encode_with, encode_lower, decode_sized, decode_pairs}
use Rattle.hex.specs.declared.error.FromHexError.{FromHexError}
use Rattle.hex.proofs.HexLemmas.{IsDigits-lower_digits}
use Rattle.fb_bytes.specs.Bytes.{Bytes, IsBytes}
use Rattle.fb_bytes.specs.Words.{backslash, is_plain, byte_of, IsLetterOf, AreLettersOf, IsWordOf, letter_of, letters_of, printed}

letter_spells : (byte : ℕ) → byte < 256 → IsLetterOf (letter_of byte) byte
unfolding encode_with
letter_spells byte h =
    cond_both (is_plain byte) (byte ∷ []) (backslash ∷ 120 ∷ encode_lower (byte ∷ [])) (λ letter. IsLetterOf letter byte)
    (λ t. inl (refl, t))
    (λ f. inr (slice_index lower_digits (byte / 16), slice_index lower_digits (byte % 16), refl, digits))
  where
    digits : byte_of (slice_index lower_digits (byte / 16)) (slice_index lower_digits (byte % 16)) ≡ Some byte
    digits =
        let high = IsDigits-lower_digits (byte / 16) (omega arith) in
        let low = IsDigits-lower_digits (byte % 16) (omega arith) in
        let whole : byte / 16 * 16 + byte % 16 ≡ byte = omega arith in
        rw (high, low) (ap Some whole)

letters_spell : (bytes : Bytes) → IsBytes bytes → AreLettersOf (letters_of bytes) bytes
letters_spell [] h = refl
letters_spell (byte ∷ bytes) h = (letter_of byte, letters_of bytes, refl, letter_spells byte (h 0), letters_spell bytes (λ i. h (suc i)))

pub printed_is_word : (bytes : Bytes) → IsBytes bytes → IsWordOf (printed bytes) bytes
printed_is_word [] h = refl
printed_is_word (byte ∷ bytes) h = letters_spell (byte ∷ bytes) h

printed_letters : (bytes : Bytes) → 0 < length bytes → printed bytes ≡ letters_of bytes
printed_letters [] h = absurd (omega arith)
printed_letters (byte ∷ bytes) h = refl

letters_of-push : (bytes : Bytes) (byte : ℕ) → letters_of (bytes ++ byte ∷ []) ≡ letters_of bytes ++ letter_of byte
letters_of-push [] byte = append-nil (letter_of byte)
letters_of-push (first ∷ bytes) byte = ap (λ w. letter_of first ++ w) (letters_of-push bytes byte) ∙ sym (append_assoc (letter_of first) (letters_of bytes) (letter_of byte))

pub one_more_letter : (bytes : Bytes) (i : ℕ) → i < length bytes → letters_of (take (i + 1) bytes) ≡ letters_of (take i bytes) ++ letter_of (get_or bytes i 0)
one_more_letter bytes i h = ap letters_of (take_more bytes i 0 h) ∙ letters_of-push (take i bytes) (get_or bytes i 0)

-- what decoding two digits answers
abbrev Decodes : Option ℕ → Result (Unit {0}) FromHexError → Bytes → Type 0
Decodes (Some byte) r out = (r ≡ Ok tt) × (out ≡ byte ∷ [])
Decodes None r out = (e : FromHexError) × (r ≡ Err e)

two_digits : (high low : ℕ) (r : Result (Unit {0}) FromHexError) (out : Bytes)
    → MatchResult (decode_sized (high ∷ low ∷ []) 1) (λ bytes. (r ≡ Ok tt) × (out ≡ bytes)) (λ e. r ≡ Err e)
    → Decodes (byte_of high low) r out
unfolding decode_pairs
two_digits high low r out h = go (hex_digit_value high) (hex_digit_value low) refl refl
  where
    go : (a b : Option ℕ) → hex_digit_value high ≡ a → hex_digit_value low ≡ b → Decodes (byte_of high low) r out
    go None b p q = let k = rw p at h in rw p (_, k)
    go (Some x) None p q = let k = rw (p, q) at h in rw (p, q) (_, k)
    go (Some x) (Some y) p q = let k = rw (p, q) at h in rw (p, q) k

pub whole_printed : (bytes : Bytes) (i : ℕ) → length bytes ≤ i → 0 < length bytes → letters_of (take i bytes) ≡ printed bytes
whole_printed bytes i h n = ap letters_of (take_all i bytes h) ∙ sym (printed_letters bytes n)

abbrev DecodesAs : Option ℕ → Result (Unit {0}) FromHexError → Bytes → Type 0
DecodesAs byte r out = (None ≡ result_ok r → byte ≡ None) × ((u : Unit {0}) → Some u ≡ result_ok r → Some (get_or out 0 0) ≡ byte)

decodes_as : (byte : Option ℕ) (r : Result (Unit {0}) FromHexError) (out : Bytes) → Decodes byte r out → DecodesAs byte r out
decodes_as None r out d = rw d.1 (λ e. refl, λ u e. cc)
decodes_as (Some byte) r out d = rw (d.0, d.1) (λ e. cc, λ u e. refl)

pub hex_answers : (high low : ℕ) (r : Result (Unit {0}) FromHexError) (out : Bytes)
    → MatchResult (decode_sized (high ∷ low ∷ []) 1) (λ bytes. (r ≡ Ok tt) × (out ≡ bytes)) (λ e. r ≡ Err e)
    → DecodesAs (byte_of high low) r out
hex_answers high low r out h = decodes_as (byte_of high low) r out (two_digits high low r out h)
