-- Numbers in a text: decimal, without a leading zero.
use Rattle.std.specs.Prelude.{ℕ, Bool, ◌&&◌, length, nat_le, nat_lt, Option, Some, None, Ok}
use Rattle.std.specs.Prelude.{if◌then◌else◌}
use Rattle.std.specs.List.{list_all}
use Rattle.std.specs.Char.{is_ascii_digit}
use Rattle.fb_bytes.specs.Bytes.{Bytes}
use Rattle.fb_bytes.specs.Limits.{most_number}
use Rattle.file_names.specs.Reading.{value_after, is_plain}
use Rattle.workload_text.specs.declared.text_fault.TextKind.TheVariants.{Number, Range}
use Rattle.workload_text.specs.Faults.{Read, refuse}

-- the word is a number, however great
abbrev pub is_decimal : Bytes → Bool
is_decimal word = nat_lt 0 (length word) && list_all is_ascii_digit word && is_plain word

-- a number, where it is at most 2^62
abbrev pub if_small : ℕ → Option ℕ
if_small n = if nat_le n most_number then Some n else None

-- the number that a word is: none where it is past 2^62
abbrev pub number_of : Bytes → Read (Option ℕ)
number_of word = if is_decimal word then Ok (if_small (value_after 0 word)) else refuse Number

-- the number, where it is within limits
abbrev pub within : ℕ → ℕ → Option ℕ → Read ℕ
within least most None = refuse Range
within least most (Some n) = if nat_le least n && nat_le n most then Ok n else refuse Range
