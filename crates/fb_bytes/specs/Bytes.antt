-- Strings of bytes and their order.
use Rattle.std.specs.Prelude.{ℕ, ◌<◌, Bool, List, nat_eq, slice_index}
use Rattle.std.specs.Ordering.{is_lt, nat_cmp}
use Rattle.std.specs.Cmp.Lexicographic.{slice_cmp, pointwise}

abbrev pub Bytes : Type 0
Bytes = List ℕ

-- each number of the list is a byte
abbrev pub IsBytes : Bytes → Type 0
IsBytes bytes = (i : ℕ) → slice_index bytes i < 256

-- strictly before, in byte order
unfoldable pub is_below : Bytes → Bytes → Bool
is_below x y = is_lt (slice_cmp nat_cmp x y)

unfoldable pub is_same : Bytes → Bytes → Bool
is_same x y = pointwise nat_eq x y
