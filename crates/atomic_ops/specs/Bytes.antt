-- Strings of bytes: bit by bit, in byte order, and cut or extended to a length.
use Rattle.std.specs.Prelude.{ℕ, ◌<◌, Bool, List, ◌++◌, map, zip, take, replicate, nat_eq, bit_and}
use Rattle.std.specs.Prelude.{bit_or, bit_xor, slice_index, Option, Some, None, if◌then◌else◌}
use Rattle.std.specs.Ordering.{is_gt, nat_cmp}
use Rattle.std.specs.Cmp.Lexicographic.{slice_cmp, pointwise}

abbrev pub Bytes : Type 0
Bytes = List ℕ

-- each number of the list is a byte
abbrev pub IsBytes : Bytes → Type 0
IsBytes bytes = (i : ℕ) → slice_index bytes i < 256

-- the same bytes
abbrev pub is_same : Bytes → Bytes → Bool
is_same x y = pointwise nat_eq x y

-- extended with zeros at the end, or cut, to n bytes
abbrev pub resized : Bytes → ℕ → Bytes
resized bytes n = take n (bytes ++ replicate n 0)

-- what a key has, resized to n bytes; an absent key counts as zeros
abbrev pub fitted : Option Bytes → ℕ → Bytes
fitted (Some old) n = resized old n
fitted None n = replicate n 0

-- bit by bit, of two strings of one length
abbrev pub bytes_and : Bytes → Bytes → Bytes
bytes_and xs ys = map (λ (x, y). bit_and x y) (zip xs ys)

abbrev pub bytes_or : Bytes → Bytes → Bytes
bytes_or xs ys = map (λ (x, y). bit_or x y) (zip xs ys)

abbrev pub bytes_xor : Bytes → Bytes → Bytes
bytes_xor xs ys = map (λ (x, y). bit_xor x y) (zip xs ys)

-- the one that comes first in byte order, and the one that comes last
abbrev pub earlier : Bytes → Bytes → Bytes
earlier x y = if is_gt (slice_cmp nat_cmp x y) then y else x

abbrev pub later : Bytes → Bytes → Bytes
later x y = if is_gt (slice_cmp nat_cmp x y) then x else y
