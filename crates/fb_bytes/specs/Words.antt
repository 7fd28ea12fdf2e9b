-- The text form of bytes: which words spell which bytes, and the one that is printed.
use Rattle.std.specs.Prelude.{◌≡◌, ℕ, zero, suc, ◌+◌, ◌*◌, nat_le, nat_eq, Bool, true, not, ◌&&◌}
use Rattle.std.specs.Prelude.{[], ◌∷◌, ◌++◌, Option, Some, None, Result, Ok, Err, ◌⊎◌}
use Rattle.std.specs.Prelude.{if◌then◌else◌}
use Rattle.hex.specs.Hex.{hex_digit_value, encode_lower}
use Rattle.fb_bytes.specs.declared.word_fault.WordFault.{WordFault}
use Rattle.fb_bytes.specs.declared.word_fault.WordFault.TheVariants.{Escape, Open}
use Rattle.fb_bytes.specs.Bytes.{Bytes, is_same}
use Rattle.fb_bytes.specs.Options.{◌>>=◌}

-- `\`, which begins an escape
abbrev pub backslash : ℕ
backslash = 92

-- the byte is from `!` to `~` and isn't `\`, so it stands for itself
abbrev pub is_plain : ℕ → Bool
is_plain byte = nat_le 33 byte && nat_le byte 126 && not (nat_eq byte backslash)

-- the byte of two hexadecimal digits, each of either case
abbrev pub byte_of : ℕ → ℕ → Option ℕ
byte_of high low = do
  h ← hex_digit_value high
  l ← hex_digit_value low
  Some (h * 16 + l)

-- what spells one byte: itself, where it is plain, or `\x` and two digits
abbrev pub IsLetterOf : Bytes → ℕ → Type 0
IsLetterOf letter byte =
    ((letter ≡ byte ∷ []) × (is_plain byte ≡ true))
    ⊎ ((high : ℕ) × (low : ℕ) × (letter ≡ backslash ∷ 120 ∷ high ∷ low ∷ [])
    × (byte_of high low ≡ Some byte))

-- a letter for each byte, one after the other
abbrev pub AreLettersOf : Bytes → Bytes → Type 0
AreLettersOf word [] = word ≡ []
AreLettersOf word (byte ∷ bytes) =
    (letter : Bytes) × (rest : Bytes) × (word ≡ letter ++ rest) × IsLetterOf letter byte
    × AreLettersOf rest bytes

-- `\e`, which spells the empty string
abbrev pub empty_word : Bytes
empty_word = backslash ∷ 101 ∷ []

-- the word spells these bytes
abbrev pub IsWordOf : Bytes → Bytes → Type 0
IsWordOf word [] = word ≡ empty_word
IsWordOf word (byte ∷ bytes) = AreLettersOf word (byte ∷ bytes)

-- a word spells at most one string of bytes
abbrev pub OneReading : Type 0
OneReading = (word a b : Bytes) → IsWordOf word a → IsWordOf word b → a ≡ b

-- the letter that is printed for a byte: itself, where it is plain
abbrev pub letter_of : ℕ → Bytes
letter_of byte = if is_plain byte then byte ∷ [] else backslash ∷ 120 ∷ encode_lower (byte ∷ [])

abbrev pub letters_of : Bytes → Bytes
letters_of [] = []
letters_of (byte ∷ bytes) = letter_of byte ++ letters_of bytes

-- the word that is printed for these bytes
abbrev pub printed : Bytes → Bytes
printed [] = empty_word
printed (byte ∷ bytes) = letters_of (byte ∷ bytes)

-- behind a backslash: the byte that the escape spells, and how many bytes more it takes
abbrev pub escape_at : Bytes → Option (ℕ × ℕ)
escape_at (x ∷ high ∷ low ∷ word) =
    if nat_eq x 120 then byte_of high low >>= (λ byte. Some (byte, 3)) else None
escape_at word = None

-- the byte that the letter at the front spells, and how many bytes it takes behind its first
abbrev pub letter_at : Bytes → Option (ℕ × ℕ)
letter_at [] = None
letter_at (first ∷ word) =
    if is_plain first then Some (first, 0)
    else if nat_eq first backslash then escape_at word
    else None

-- a byte in front of what the rest spells
abbrev pub in_front : ℕ → Result Bytes WordFault → Result Bytes WordFault
in_front byte (Ok bytes) = Ok (byte ∷ bytes)
in_front byte (Err fault) = Err fault

abbrev pub next_letter : ℕ → Option (ℕ × ℕ) → (ℕ → Result Bytes WordFault) → Result Bytes WordFault
next_letter at None rest = Err (Escape at)
next_letter at (Some letter) rest = in_front letter.0 (rest letter.1)

-- what the letters spell, or the first place where none begins; places count on from `at`, and the
-- first `taken` bytes belong to the letter before
abbrev pub letters : ℕ → ℕ → Bytes → Result Bytes WordFault
letters taken at [] = Ok []
letters zero at (first ∷ word) =
    next_letter at (letter_at (first ∷ word)) (λ more. letters more (at + 1) word)
letters (suc taken) at (first ∷ word) = letters taken (at + 1) word

-- the bytes that a word spells, or its fault
abbrev pub word_reading : Bytes → Result Bytes WordFault
word_reading [] = Err Open
word_reading (first ∷ word) =
    if is_same (first ∷ word) empty_word then Ok [] else letters 0 0 (first ∷ word)
