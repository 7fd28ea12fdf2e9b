-- Pieces of ranges of keys, and the least key that a list of them leaves out or holds.
use Rattle.std.specs.Prelude.{◌≡◌, Bool, true, false, List, [], ◌∷◌, Option, Some, None}
use Rattle.std.specs.Prelude.{if◌then◌else◌}
use Rattle.fb_bytes.specs.Bytes.{Bytes, is_below}
use Rattle.fb_bytes.specs.declared.KeyRange.{KeyRange}
use Rattle.fb_bytes.specs.Keys.{holds, is_backwards}
pub use Rattle.fb_bytes.specs.Keys.{overlaps}

-- the next piece, if there is one, begins at this key or past it
abbrev pub BeginFrom : Bytes → List KeyRange → Type 0
BeginFrom key [] = Unit {0}
BeginFrom key (piece ∷ pieces) = is_below piece.begin key ≡ false

-- in key order, none empty, and no two overlap; they may touch
abbrev pub ArePieces : List KeyRange → Type 0
ArePieces [] = Unit {0}
ArePieces (piece ∷ pieces) =
    (is_backwards piece ≡ false) × BeginFrom piece.end pieces × ArePieces pieces

-- the key itself, or where the pieces that hold it, one behind the other, end
abbrev pub covered_from : List KeyRange → Bytes → Bytes
covered_from [] key = key
covered_from (piece ∷ pieces) key =
    if holds piece key then covered_from pieces piece.end else covered_from pieces key

-- the key, where it is before the end
abbrev pub if_below : Bytes → Bytes → Option Bytes
if_below key end = if is_below key end then Some key else None

-- the least key of the range that no piece holds
abbrev pub outside : List KeyRange → KeyRange → Option Bytes
outside pieces range = if_below (covered_from pieces range.begin) range.end

-- the later of two keys
abbrev pub later : Bytes → Bytes → Bytes
later a b = if is_below a b then b else a

-- the least key of the range that some piece holds
abbrev pub overlap : List KeyRange → KeyRange → Option Bytes
overlap [] range = None
overlap (piece ∷ pieces) range =
    if overlaps piece range then if_below (later piece.begin range.begin) range.end
    else overlap pieces range

-- the first of two keys that is there
abbrev pub or_else : Option Bytes → Option Bytes → Option Bytes
or_else None other = other
or_else (Some key) other = Some key

-- the least key of the ranges that no piece holds
abbrev pub gap_in : List KeyRange → List KeyRange → Option Bytes
gap_in [] pieces = None
gap_in (range ∷ ranges) pieces = or_else (outside pieces range) (gap_in ranges pieces)

-- of the keys that pass one test, the least that passes another too; None where there is none
pub record IsFirst (has test : Bytes → Bool) (key : Bytes) : Type 0 where
  pub inside : has key ≡ true
  pub passes : test key ≡ true
  pub least : (other : Bytes) → has other ≡ true → test other ≡ true → is_below other key ≡ false

-- the first of them, where there is one
abbrev pub IsFirstOrNone : (Bytes → Bool) → (Bytes → Bool) → Option Bytes → Type 0
IsFirstOrNone has test None = (key : Bytes) → has key ≡ true → test key ≡ false
IsFirstOrNone has test (Some key) = IsFirst has test key
