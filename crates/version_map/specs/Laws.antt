-- What holds of all version maps.
use Rattle.std.specs.Prelude.{◌≡◌, ℕ, List, [], ◌∷◌, Option, Some, None, if◌then◌else◌}
use Rattle.fb_bytes.specs.Bytes.{Bytes}
use Rattle.fb_bytes.specs.declared.KeyRange.{KeyRange}
use Rattle.fb_bytes.specs.Keys.{holds}
use Rattle.version_map.specs.Pieces.{Piece, version_at, with_set, ArePieces}
use Rattle.version_map.specs.Parts.{Part, parts_of, told_at, Tile}

-- the pieces after sets that were made one after the other
abbrev pub after_sets : List Piece → List Piece → List Piece
after_sets [] pieces = pieces
after_sets (set ∷ sets) pieces = after_sets sets (with_set set.range set.version pieces)

-- the version of the last set whose range holds the key, or the one before them all
abbrev pub last_set : List Piece → Bytes → Option ℕ → Option ℕ
last_set [] key before = before
last_set (set ∷ sets) key before =
    last_set sets key (if holds set.range key then Some set.version else before)

-- a set gives its version to the keys of its range, and leaves every other key as it was
abbrev pub SetLaw : Type 0
SetLaw = (range : KeyRange) (version : ℕ) (pieces : List Piece) (key : Bytes)
    → version_at (with_set range version pieces) key
    ≡ (if holds range key then Some version else version_at pieces key)

-- after sets on an empty map a key has the version of the last one whose range holds it
abbrev pub LastSetLaw : Type 0
LastSetLaw =
    (sets : List Piece) (key : Bytes) → version_at (after_sets sets []) key ≡ last_set sets key None

-- the parts of a range tile it, and tell the version of each of its keys and of no other
pub record ArePartsOf (range : KeyRange) (pieces : List Piece) (parts : List Part) : Type 0 where
  pub tile : Tile range.begin range.end parts
  pub told : (key : Bytes)
      → told_at parts key ≡ (if holds range key then Some (version_at pieces key) else None)

abbrev pub PartsLaw : Type 0
PartsLaw = (range : KeyRange) (pieces : List Piece) → ArePieces pieces
    → ArePartsOf range pieces (parts_of range pieces)
