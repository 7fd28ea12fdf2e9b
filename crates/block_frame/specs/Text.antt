-- The bytes that blocks are made of.
use Rattle.std.specs.Prelude.{◌≡◌, ℕ, ◌*◌, Bool, true, not, [], ◌∷◌, ◌++◌, length, take, drop}
use Rattle.std.specs.Prelude.{position, Option, Some, None, nat_lt, ◌==◌, if◌then◌else◌}
use Rattle.std.specs.List.{AllByRecursion}
use Rattle.std.specs.Int.{w32, to_le_bytes, to_be_bytes, from_le_bytes, from_be_bytes}
use Rattle.fb_bytes.specs.Bytes.{Bytes}
use Rattle.fb_bytes.specs.Options.{◌>>=◌}

-- a block begins with the number of its format, the low byte first
abbrev pub header : ℕ → Bytes
header format = to_le_bytes w32 format

-- a string stands behind its length, which has the high byte first
abbrev pub string : Bytes → Bytes
string s = to_be_bytes w32 (length s) ++ s

-- what fills a block up
abbrev pub IsPadding : Bytes → Type 0
IsPadding bytes = AllByRecursion (λ byte. byte ≡ 255) bytes

-- the first n bytes and those behind them, where there are so many
abbrev pub split : ℕ → Bytes → Option (Bytes × Bytes)
split n bytes = if nat_lt (length bytes) n then None else Some (take n bytes, drop n bytes)

-- the number that a block begins with, and what stands behind it
unfoldable pub header_at : Bytes → Option (ℕ × Bytes)
header_at bytes = split 4 bytes >>= λ cut. Some (from_le_bytes w32 cut.0, cut.1)

-- the string that stands in front, and what stands behind it
unfoldable pub string_at : Bytes → Option (Bytes × Bytes)
string_at bytes = split 4 bytes >>= λ cut. split (from_be_bytes w32 cut.0) cut.1

-- no string follows: the block is at its end or at its padding
abbrev pub is_over : Bytes → Bool
is_over [] = true
is_over (byte ∷ bytes) = byte == 255

-- the place of the first byte that isn't padding
abbrev pub unpadded_at : Bytes → Option ℕ
unpadded_at bytes = position (λ byte. not (byte == 255)) bytes

-- the block at an index, where the bytes go so far
abbrev pub block_of : Bytes → ℕ → ℕ → Option Bytes
block_of bytes block index =
    if nat_lt (index * block) (length bytes) then Some (take block (drop (index * block) bytes))
    else None
