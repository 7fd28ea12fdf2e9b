-- What single words of a line spell, and how many words a line has.
use Rattle.std.specs.Prelude.{ℕ, Bool, true, false, List, [], ◌∷◌, codes}
use Rattle.std.specs.Prelude.{Result, Ok, Err, if◌then◌else◌}
use Rattle.fb_bytes.specs.declared.KeyRange.{KeyRange}
use Rattle.fb_bytes.specs.declared.WordFault.{WordFault}
use Rattle.fb_bytes.specs.Bytes.{Bytes, is_same}
pub use Rattle.fb_bytes.specs.Results.{◌>>=◌}
use Rattle.fb_bytes.specs.Words.{word_reading}
use Rattle.workload_text.specs.declared.client_script.Side.{Side}
use Rattle.workload_text.specs.declared.client_script.Side.TheVariants.{Src, Dst}
use Rattle.workload_text.specs.declared.text_fault.TextKind.TheVariants.{Count, Range, Name, Key}
use Rattle.workload_text.specs.Commands.{is_container_name}
use Rattle.workload_text.specs.Faults.{Read, refuse}
use Rattle.workload_text.specs.Numbers.{number_of, within}
use Rattle.fb_bytes.specs.Limits.{most_number}

-- ---- one word

abbrev pub or_key : Result Bytes WordFault → Read Bytes
or_key (Ok bytes) = Ok bytes
or_key (Err fault) = refuse Key

-- the bytes that a word spells
abbrev pub bytes_of : Bytes → Read Bytes
bytes_of word = or_key (word_reading word)

-- the range that two words spell
abbrev pub range_of : Bytes → Bytes → Read KeyRange
range_of begin end = do
  b ← bytes_of begin
  e ← bytes_of end
  Ok (record { begin = b; end = e })

-- the tag or the container that a word is
abbrev pub name_of : Bytes → Read Bytes
name_of word = if is_container_name word then Ok word else refuse Name

-- the database of a word
abbrev pub side_of : Bytes → Read Side
side_of word =
    if is_same word (codes "src") then Ok Src
    else if is_same word (codes "dst") then Ok Dst
    else refuse Range

-- one of two words: which it is
abbrev pub mode_of : Bytes → Bytes → Bytes → Read Bool
mode_of on off word =
    if is_same word on then Ok true else if is_same word off then Ok false else refuse Range

-- ---- so many words

abbrev pub no_words : {A : Type 0} → List Bytes → A → Read A
no_words [] x = Ok x
no_words (word ∷ words) x = refuse Count

-- the first word and those behind it
abbrev pub next_word : List Bytes → Read (Bytes × List Bytes)
next_word [] = refuse Count
next_word (word ∷ words) = Ok (word, words)

abbrev pub one_word : List Bytes → Read Bytes
one_word (a ∷ []) = Ok a
one_word words = refuse Count

abbrev pub two_words : List Bytes → Read (Bytes × Bytes)
two_words (a ∷ b ∷ []) = Ok (a, b)
two_words words = refuse Count

abbrev pub three_words : List Bytes → Read (Bytes × Bytes × Bytes)
three_words (a ∷ b ∷ c ∷ []) = Ok (a, b, c)
three_words words = refuse Count

abbrev pub four_words : List Bytes → Read (Bytes × Bytes × Bytes × Bytes)
four_words (a ∷ b ∷ c ∷ d ∷ []) = Ok (a, b, c, d)
four_words words = refuse Count

-- so many are even
abbrev pub are_paired : List Bytes → Bool
are_paired [] = true
are_paired (a ∷ []) = false
are_paired (a ∷ b ∷ words) = are_paired words

-- ---- numbers

-- a number from one on and at most another
abbrev pub number_in : ℕ → ℕ → Bytes → Read ℕ
number_in least most word = number_of word >>= within least most

-- any number up to 2^62
abbrev pub any_number : Bytes → Read ℕ
any_number word = number_in 0 most_number word

-- two numbers, each up to 2^62; both are read before a limit is looked at
abbrev pub two_numbers : Bytes → Bytes → Read (ℕ × ℕ)
two_numbers a b = do
  n ← number_of a
  m ← number_of b
  first ← within 0 most_number n
  second ← within 0 most_number m
  Ok (first, second)
