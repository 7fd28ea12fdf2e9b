-- Reading a name from left to right.
use Rattle.std.specs.Prelude.{ℕ, ◌+◌, ◌*◌, ◌-◌, ◌/◌, Bool, List, [], ◌∷◌, length, take, drop}
use Rattle.std.specs.Prelude.{Option, Some, None, nat_lt, nat_le, ◌&&◌, ◌||◌, not, ◌==◌}
use Rattle.std.specs.Prelude.{if◌then◌else◌, get_or}
use Rattle.std.specs.List.{prefix_len}
use Rattle.std.specs.Char.{is_ascii_digit}
use Rattle.fb_bytes.specs.Bytes.{Bytes, is_same}
use Rattle.fb_bytes.specs.Blocks.{is_block}
use Rattle.fb_bytes.specs.Options.{◌>>=◌}
use Rattle.file_names.specs.declared.name.Name.{Name}
use Rattle.file_names.specs.declared.name.Name.TheVariants.{Range, Log, Manifest, Unreliable}
use Rattle.file_names.specs.declared.name.Name.TheVariants.{Expired, Other}
use Rattle.file_names.specs.Spelling.{is_number, range_texts, log_texts, manifest_texts}
use Rattle.file_names.specs.Spelling.{unreliable_text, expired_text}

-- what stands behind a text that the bytes begin with
unfoldable pub after : Bytes → Bytes → Option Bytes
after text bytes =
    if is_same (take (length text) bytes) text then Some (drop (length text) bytes) else None

-- the number that digits write, behind those of n
abbrev pub value_after : ℕ → Bytes → ℕ
value_after n [] = n
value_after n (digit ∷ digits) = value_after (n * 10 + (digit - 48)) digits

-- a leading zero stands alone
abbrev pub is_plain : Bytes → Bool
is_plain digits = not (get_or digits 0 0 == 48) || length digits == 1

-- the digits in front
abbrev pub digits_of : Bytes → Bytes
digits_of bytes = take (prefix_len is_ascii_digit bytes) bytes

abbrev pub behind_digits : Bytes → Bytes
behind_digits bytes = drop (prefix_len is_ascii_digit bytes) bytes

-- the number that digits write, where they are written as in names
unfoldable pub number_of : Bytes → Option ℕ
number_of digits =
    if nat_lt 0 (length digits) && is_plain digits && is_number (value_after 0 digits)
    then Some (value_after 0 digits) else None

-- the number in front, with all its digits, and what stands behind it
unfoldable pub number_at : Bytes → Option (ℕ × Bytes)
number_at bytes = number_of (digits_of bytes) >>= λ n. Some (n, behind_digits bytes)

-- the number behind a text
unfoldable pub number_after : Bytes → Bytes → Option (ℕ × Bytes)
number_after text bytes = after text bytes >>= number_at

-- the numbers behind the texts, with nothing else in the bytes
abbrev pub numbers_in : List Bytes → Bytes → Option (List ℕ)
numbers_in [] bytes = if length bytes == 0 then Some [] else None
numbers_in (text ∷ texts) bytes = do
  n ← number_after text bytes
  ns ← numbers_in texts n.1
  Some (n.0 ∷ ns)

abbrev pub range_from : List ℕ → Option Name
range_from (snapshot ∷ group ∷ version ∷ ticket ∷ block ∷ []) =
    if group == ticket / 1000 && is_block block then Some (Range snapshot version ticket block)
    else None
range_from _ = None

abbrev pub log_from : List ℕ → Option Name
log_from (group ∷ begin ∷ end ∷ ticket ∷ block ∷ []) =
    if group == begin / 1000000000 && is_block block && nat_lt begin end
    then Some (Log begin end ticket block) else None
log_from _ = None

abbrev pub manifest_from : List ℕ → Option Name
manifest_from (begin ∷ end ∷ bytes ∷ ticket ∷ []) =
    if nat_le begin end then Some (Manifest begin end bytes ticket) else None
manifest_from _ = None

unfoldable pub range_of : Bytes → Option Name
range_of text = numbers_in range_texts text >>= range_from

unfoldable pub log_of : Bytes → Option Name
log_of text = numbers_in log_texts text >>= log_from

unfoldable pub manifest_of : Bytes → Option Name
manifest_of text = numbers_in manifest_texts text >>= manifest_from

unfoldable pub property_of : Bytes → Option Name
property_of text =
    if is_same text unreliable_text then Some Unreliable
    else if is_same text expired_text then Some Expired else None

abbrev pub first_of : Option Name → Option Name → Option Name
first_of None other = other
first_of (Some name) other = Some name

abbrev pub or_other : Option Name → Name
or_other None = Other
or_other (Some name) = name

-- the name that a text spells, or Other
unfoldable pub name_of : Bytes → Name
name_of text =
    or_other (first_of (property_of text)
    (first_of (range_of text) (first_of (log_of text) (manifest_of text))))
