-- What the least keys are, and what the manifest of noted files is.
use Rattle.std.specs.Prelude.{◌≡◌, ◌≢◌, ◌||◌, ◌↔◌, Bool, true, false, not, List, [], length, sum_by}
use Rattle.std.specs.Prelude.{Some, None}
use Rattle.fb_bytes.specs.Bytes.{Bytes}
use Rattle.fb_bytes.specs.declared.KeyRange.{KeyRange}
use Rattle.fb_bytes.specs.Options.{IsIn}
use Rattle.fb_bytes.specs.Keys.{holds, in_ranges, is_backwards, AreSeparate}
use Rattle.snapshot_plan.specs.declared.file_map.Noted.{Noted}
use Rattle.snapshot_plan.specs.declared.fault.MapFault.TheVariants.{OutsideRanges, Overlap}
use Rattle.snapshot_plan.specs.Pieces.{ArePieces, outside, overlap, gap_in, IsFirst, IsFirstOrNone}
use Rattle.snapshot_plan.specs.Noted.{Map, pieces_of, with_noted, without, fault_of, gap}
use Rattle.snapshot_plan.specs.Noted.{manifest_of}
use Rattle.snapshot_plan.specs.Listing.{noted_names, IsLeastVersion, IsGreatestVersion, AreOrdered}
use Rattle.snapshot_plan.specs.Listing.{AreRising, AreDistinct, HaveRangeNames, IsWritable}

-- the key is in no range
abbrev pub is_out : List KeyRange → Bytes → Bool
is_out ranges key = not (in_ranges ranges key)

-- the least key of the piece outside the ranges
abbrev pub IsOutside : Map → KeyRange → Bytes → Type 0
IsOutside m piece = IsFirst (holds piece) (is_out m.ranges)

-- each key of the piece is in the ranges
abbrev pub IsInside : Map → KeyRange → Type 0
IsInside m piece = (key : Bytes) → holds piece key ≡ true → in_ranges m.ranges key ≡ true

-- the least key of the piece that a noted piece holds
abbrev pub IsHeld : Map → KeyRange → Bytes → Type 0
IsHeld m piece = IsFirst (holds piece) (in_ranges (pieces_of m.noted))

-- no noted piece holds a key of the piece
abbrev pub IsApart : Map → KeyRange → Type 0
IsApart m piece = (key : Bytes) → holds piece key ≡ true → in_ranges (pieces_of m.noted) key ≡ false

-- the least key of the ranges that no noted piece holds
abbrev pub IsUntiled : Map → Bytes → Type 0
IsUntiled m = IsFirst (in_ranges m.ranges) (is_out (pieces_of m.noted))

-- the noted pieces hold each key of the ranges
abbrev pub IsTiled : Map → Type 0
IsTiled m = (key : Bytes) → in_ranges m.ranges key ≡ true → in_ranges (pieces_of m.noted) key ≡ true

-- what a map keeps
pub record IsMap (m : Map) : Type 0 where
  pub ranges : AreSeparate m.ranges
  pub pieces : ArePieces (pieces_of m.noted)

-- Why a piece can't be noted, and what is left to be dumped, by the least keys alone.
pub record LeastKeyLaw : Type 0 where
  pub outside : (m : Map) (piece : KeyRange) (key : Bytes) → IsMap m
      → (fault_of m piece ≡ Some (OutsideRanges key)) ↔ IsOutside m piece key
  pub held : (m : Map) (piece : KeyRange) (key : Bytes) → IsMap m
      → (fault_of m piece ≡ Some (Overlap key)) ↔ (IsInside m piece × IsHeld m piece key)
  pub free : (m : Map) (piece : KeyRange) → IsMap m
      → (fault_of m piece ≡ None) ↔ (IsInside m piece × IsApart m piece)
  pub untiled : (m : Map) (key : Bytes) → IsMap m → (gap m ≡ Some key) ↔ IsUntiled m key
  pub tiled : (m : Map) → IsMap m → (gap m ≡ None) ↔ IsTiled m

pub record PieceLaw : Type 0 where
  -- ranges of a job are pieces
  pub ranges : (ranges : List KeyRange) → AreSeparate ranges → ArePieces ranges
  pub outside : (pieces : List KeyRange) (range : KeyRange) → ArePieces pieces
      → IsFirstOrNone (holds range) (is_out pieces) (outside pieces range)
  pub overlap : (pieces : List KeyRange) (range : KeyRange) → ArePieces pieces
      → IsFirstOrNone (holds range) (in_ranges pieces) (overlap pieces range)
  pub gap : (ranges pieces : List KeyRange) → AreSeparate ranges → ArePieces pieces
      → IsFirstOrNone (in_ranges ranges) (is_out pieces) (gap_in ranges pieces)
  -- a piece more holds its own keys more, and pieces stay in order
  pub more : (one : Noted) (noted : List Noted) (key : Bytes)
      → in_ranges (pieces_of (with_noted one noted)) key
      ≡ (holds one.piece key || in_ranges (pieces_of noted) key)
  pub stay : (one : Noted) (noted : List Noted) → ArePieces (pieces_of noted)
      → is_backwards one.piece ≡ false
      → ((key : Bytes) → holds one.piece key ≡ true → in_ranges (pieces_of noted) key ≡ false)
      → ArePieces (pieces_of (with_noted one noted))

-- A piece that was noted and is taken back leaves what was noted before.
abbrev pub TakeBackLaw : Type 0
TakeBackLaw =
    (one : Noted) (noted : List Noted) → without one.piece.begin (with_noted one noted) ≡ noted

-- what the manifest of noted files says
pub record ManifestLaw : Type 0 where
  pub begin : (noted : List Noted) → noted ≢ [] → IsLeastVersion noted (manifest_of noted).begin
  pub end : (noted : List Noted) → noted ≢ [] → IsGreatestVersion noted (manifest_of noted).end
  -- it lists the names of the noted files, no other, and as many
  pub files : (noted : List Noted) (name : Bytes)
      → IsIn name (manifest_of noted).files ↔ IsIn name (noted_names noted)
  pub count : (noted : List Noted) → length (manifest_of noted).files ≡ length noted
  pub ordered : (noted : List Noted) → AreOrdered (manifest_of noted).files
  pub rising : (noted : List Noted) → AreDistinct (noted_names noted)
      → AreRising (manifest_of noted).files
  -- the sum of the files' bytes
  pub bytes : (noted : List Noted) → (manifest_of noted).bytes ≡ sum_by (λ n. n.file.bytes) noted

-- the manifest of files with range names of their versions, of which no two are the same, can be
-- written
abbrev pub WholeLaw : Type 0
WholeLaw = (noted : List Noted) → noted ≢ [] → HaveRangeNames noted
    → AreDistinct (noted_names noted)
    → IsWritable (manifest_of noted)
