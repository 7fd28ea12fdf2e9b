-- What stands at the front of bytes: numbers, strings, and the parts of a mutation.
use Rattle.std.specs.Prelude.{ℕ, length, take, drop, Option, Some, None, nat_lt, if◌then◌else◌}
use Rattle.std.specs.Int.{w32, w64, from_le_bytes}
use Rattle.fb_bytes.specs.Bytes.{Bytes}
use Rattle.fb_bytes.specs.Options.{◌>>=◌}

-- the number that four bytes are, or eight, the lowest byte first
unfoldable pub u32_of : Bytes → ℕ
u32_of bytes = from_le_bytes w32 bytes

unfoldable pub u64_of : Bytes → ℕ
u64_of bytes = from_le_bytes w64 bytes

-- the first n bytes and the rest, where there are so many
abbrev pub split : ℕ → Bytes → Option (Bytes × Bytes)
split n bytes = if nat_lt (length bytes) n then None else Some (take n bytes, drop n bytes)

-- a number of four bytes, and the rest
abbrev pub number_at : Bytes → Option (ℕ × Bytes)
number_at bytes = do
  front ← split 4 bytes
  Some (u32_of front.0, front.1)

-- a mutation's code and two strings, and the bytes after it
pub record Parts : Type 0 where
  pub code : ℕ
  pub first : Bytes
  pub second : Bytes
  pub rest : Bytes

-- the parts of the mutation at the front, where no part passes the end
abbrev pub parts_of : Bytes → Option Parts
parts_of bytes = do
  code ← number_at bytes
  first_len ← number_at code.1
  second_len ← number_at first_len.1
  first ← split first_len.0 second_len.1
  second ← split second_len.0 first.1
  Some (record { code = code.0; first = first.0; second = second.0; rest = second.1 })
