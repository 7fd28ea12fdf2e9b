-- The pieces that a batch is cut to.
use Rattle.std.specs.Prelude.{
  ℕ,
  zero,
  suc,
  ◌+◌,
  List,
  [],
  ◌∷◌,
  length,
  take,
  drop,
  nat_le,
  if◌then◌else◌,
}
use Rattle.fb_bytes.specs.Bytes.{Bytes}

-- bytes cut at multiples of a length; the first number is never used up
abbrev pub pieces_with : ℕ → ℕ → Bytes → List Bytes
pieces_with zero part bytes = []
pieces_with (suc fuel) part bytes =
    if nat_le (length bytes) part then bytes ∷ []
    else take part bytes ∷ pieces_with fuel part (drop part bytes)

unfoldable pub pieces_of : ℕ → Bytes → List Bytes
pieces_of part bytes = pieces_with (length bytes + 1) part bytes
