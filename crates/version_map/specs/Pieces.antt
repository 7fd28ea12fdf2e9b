-- What a version map keeps: pieces of keys, each with the version that was set there.
use Rattle.std.specs.Prelude.{◌≡◌, ℕ, true, false, List, [], ◌∷◌, ◌++◌, Option, Some, None}
use Rattle.std.specs.Prelude.{flat_map, if◌then◌else◌}
use Rattle.fb_bytes.specs.Bytes.{Bytes, is_below}
use Rattle.fb_bytes.specs.declared.KeyRange.{KeyRange}
use Rattle.fb_bytes.specs.Keys.{holds, is_backwards}
pub use Rattle.version_map.specs.declared.piece.Piece.{Piece}

-- the version of a key: that of the piece that holds it
abbrev pub version_at : List Piece → Bytes → Option ℕ
version_at [] key = None
version_at (piece ∷ pieces) key =
    if holds piece.range key then Some piece.version else version_at pieces key

-- the keys of a range before a key
abbrev pub keys_before : Bytes → KeyRange → KeyRange
keys_before key range =
    record { begin = range.begin; end = if is_below key range.end then key else range.end }

-- the keys of a range from a key on
abbrev pub keys_from : Bytes → KeyRange → KeyRange
keys_from key range =
    record { begin = if is_below range.begin key then key else range.begin; end = range.end }

-- a piece, unless its range is empty
abbrev pub piece_of : KeyRange → ℕ → List Piece
piece_of range version =
    if is_backwards range then [] else record { range = range; version = version } ∷ []

-- what is left of a piece before a key, and from a key on
abbrev pub front_of : Bytes → Piece → List Piece
front_of key piece = piece_of (keys_before key piece.range) piece.version

abbrev pub back_of : Bytes → Piece → List Piece
back_of key piece = piece_of (keys_from key piece.range) piece.version

-- The pieces once a version is set on a range: what was there before the range, the range, and what
-- was there behind it. A range without keys changes nothing.
abbrev pub with_set : KeyRange → ℕ → List Piece → List Piece
with_set range version pieces =
    if is_backwards range then pieces
    else flat_map (front_of range.begin) pieces
    ++ record { range = range; version = version } ∷ flat_map (back_of range.end) pieces

-- the next piece, if there is one, doesn't begin before the key
abbrev pub BeginFrom : Bytes → List Piece → Type 0
BeginFrom key [] = Unit {0}
BeginFrom key (piece ∷ pieces) = is_below piece.range.begin key ≡ false

-- in the order of their keys, none empty, and no two overlap
abbrev pub ArePieces : List Piece → Type 0
ArePieces [] = Unit {0}
ArePieces (piece ∷ pieces) =
    (is_below piece.range.begin piece.range.end ≡ true) × BeginFrom piece.range.end pieces
    × ArePieces pieces
