-- Where a piece stands to a key that halving looks for.
use Rattle.std.specs.Prelude.{Bool, not}
use Rattle.fb_bytes.specs.Bytes.{Bytes, is_below}
use Rattle.version_map.specs.declared.piece.Piece.{Piece}

-- the key is at the end of the piece or past it
abbrev pub is_past : Bytes → Piece → Bool
is_past key piece = not (is_below key piece.range.end)

-- the piece begins below the key
abbrev pub is_begun : Bytes → Piece → Bool
is_begun key piece = is_below piece.range.begin key
