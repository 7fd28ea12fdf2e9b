-- The parts that a version map cuts a range into.
use Rattle.std.specs.Prelude.{◌≡◌, ℕ, true, false, List, [], ◌∷◌, ◌++◌, Option, Some, None}
use Rattle.std.specs.Prelude.{if◌then◌else◌}
use Rattle.fb_bytes.specs.Bytes.{Bytes, is_below}
use Rattle.fb_bytes.specs.declared.KeyRange.{KeyRange}
use Rattle.fb_bytes.specs.Keys.{holds, is_backwards}
use Rattle.version_map.specs.Pieces.{Piece, keys_before, keys_from}
pub use Rattle.version_map.specs.declared.versioned.Part.{Part}

-- a part, unless it is empty
abbrev pub part_of : Bytes → Bytes → Option ℕ → List Part
part_of begin end version =
    if is_below begin end
    then record { range = record { begin = begin; end = end }; version = version } ∷ [] else []

-- the keys of a range that aren't before begin and are before end
abbrev pub within : Bytes → Bytes → KeyRange → KeyRange
within begin end range = keys_from begin (keys_before end range)

-- The keys from begin on and before end: what each piece has of them, as a part with its version,
-- and what lies between, as a part without one.
abbrev pub parts_between : Bytes → Bytes → List Piece → List Part
parts_between begin end [] = part_of begin end None
parts_between begin end (piece ∷ pieces) =
    let own = within begin end piece.range in
    if is_backwards own then parts_between begin end pieces
    else part_of begin own.begin None
    ++ (record { range = own; version = Some piece.version } ∷ parts_between own.end end pieces)

abbrev pub parts_of : KeyRange → List Piece → List Part
parts_of range pieces = parts_between range.begin range.end pieces

-- what the part that holds a key says of it, where one does
abbrev pub told_at : List Part → Bytes → Option (Option ℕ)
told_at [] key = None
told_at (part ∷ parts) key = if holds part.range key then Some part.version else told_at parts key

-- the parts are in order, none empty, each begins where the one before ends, and together they go
-- from begin to end
abbrev pub Tile : Bytes → Bytes → List Part → Type 0
Tile begin end [] = is_below begin end ≡ false
Tile begin end (part ∷ parts) =
    (part.range.begin ≡ begin) × (is_below begin part.range.end ≡ true)
    × (is_below end part.range.end ≡ false) × Tile part.range.end end parts
