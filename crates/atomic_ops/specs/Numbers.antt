-- Strings of bytes as whole numbers, whose lowest byte comes first.
use Rattle.std.specs.Prelude.{ℕ, zero, suc, ◌+◌, ◌*◌, ◌/◌, ◌%◌, ◌^◌, [], ◌∷◌, length, nat_lt}
use Rattle.std.specs.Prelude.{if◌then◌else◌}
use Rattle.atomic_ops.specs.Bytes.{Bytes}

-- the number that the bytes are
abbrev pub number : Bytes → ℕ
number [] = 0
number (byte ∷ bytes) = byte + 256 * number bytes

-- a number as n bytes; what goes past them is lost
abbrev pub number_bytes : ℕ → ℕ → Bytes
number_bytes zero x = []
number_bytes (suc n) x = x % 256 ∷ number_bytes n (x / 256)

-- the sum of two strings, modulo 256 to the length of the second
abbrev pub sum_bytes : Bytes → Bytes → Bytes
sum_bytes x y = number_bytes (length y) ((number x + number y) % 256 ^ length y)

-- the greater of two numbers, and the lesser
abbrev pub greater : Bytes → Bytes → Bytes
greater x y = if nat_lt (number x) (number y) then y else x

abbrev pub lesser : Bytes → Bytes → Bytes
lesser x y = if nat_lt (number y) (number x) then y else x
