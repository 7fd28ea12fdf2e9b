-- When the manifest of noted files is honest.
use Rattle.std.specs.Prelude.{ℕ, ◌≡◌, ◌≢◌, true, false, List, [], ◌∷◌, Some, None}
use Rattle.std.specs.List.{AllByRecursion}
use Rattle.fb_bytes.specs.Bytes.{Bytes}
use Rattle.fb_bytes.specs.declared.KeyRange.{KeyRange}
use Rattle.fb_bytes.specs.declared.Pair.{Pair}
use Rattle.fb_bytes.specs.Keys.{is_backwards, in_ranges, AreSeparate}
use Rattle.backup_core.specs.Backups.{BackupJob, dumped, taken_back}
use Rattle.snapshot_plan.specs.declared.Done.{Done}
use Rattle.snapshot_plan.specs.declared.Noted.{Noted}
use Rattle.snapshot_plan.specs.Listing.{noted_names, IsNew, AreDistinct, HaveRangeNames}
use Rattle.snapshot_plan.specs.Noted.{Map, pieces_of, with_noted, fault_of, gap, manifest_of}
use Rattle.snapshot_plan.specs.Pieces.{ArePieces}
use Rattle.container_view.specs.Folder.{RangeFile, ManifestFile}
use Rattle.container_view.specs.Meaning.{piece_named}
use Rattle.container_view.specs.Law.{Source, IsHonestManifest}

-- the noted file is among these range files, with the pairs of its piece at its version
abbrev pub NotedThere : List RangeFile → Noted → Type 0
NotedThere ranges n =
    (pairs : List Pair)
    × (piece_named ranges n.file.name
    ≡ Some (record { version = n.file.version; range = n.piece; pairs = pairs }))

-- the noted pieces together hold the keys of the ranges
abbrev pub AreTiling : List KeyRange → List Noted → Type 0
AreTiling ranges noted = (key : Bytes) → in_ranges (pieces_of noted) key ≡ in_ranges ranges key

-- each key of each noted piece is in the ranges
abbrev pub AreInside : List KeyRange → List Noted → Type 0
AreInside ranges noted =
    (key : Bytes) → in_ranges (pieces_of noted) key ≡ true → in_ranges ranges key ≡ true

-- what stays as one more is noted
pub record NotingLaw : Type 0 where
  pub inside : (map : Map) (one : Noted) → AreSeparate map.ranges → is_backwards one.piece ≡ false
      → fault_of map one.piece ≡ None → AreInside map.ranges map.noted
      → AreInside map.ranges (with_noted one map.noted)
  pub pieces : (map : Map) (one : Noted) → is_backwards one.piece ≡ false
      → fault_of map one.piece ≡ None → ArePieces (pieces_of map.noted)
      → ArePieces (pieces_of (with_noted one map.noted))
  pub there : (ranges : List RangeFile) (one : Noted) (noted : List Noted) → NotedThere ranges one
      → AllByRecursion (NotedThere ranges) noted
      → AllByRecursion (NotedThere ranges) (with_noted one noted)
  pub names : (one : Noted) (noted : List Noted) → HaveRangeNames (one ∷ []) → HaveRangeNames noted
      → HaveRangeNames (with_noted one noted)
  pub distinct : (one : Noted) (noted : List Noted) → IsNew one.file.name (noted_names noted)
      → AreDistinct (noted_names noted) → AreDistinct (noted_names (with_noted one noted))

-- a dump that is taken back leaves the job as it was
abbrev pub UndoLaw : Type 0
UndoLaw = (job : BackupJob) (piece : KeyRange) (now : ℕ) (file : Done)
    → taken_back (dumped job piece now file) piece.begin job.snapshot ≡ job

-- noted pieces inside the ranges that leave no gap tile them
abbrev pub TilingLaw : Type 0
TilingLaw = (ranges : List KeyRange) (noted : List Noted) → AreSeparate ranges
    → ArePieces (pieces_of noted) → AreInside ranges noted
    → gap (record { ranges = ranges; noted = noted }) ≡ None → AreTiling ranges noted

-- the manifest file says what the manifest of the noted files says
pub record SaysNoted (noted : List Noted) (file : ManifestFile) : Type 0 where
  pub begin : file.begin ≡ (manifest_of noted).begin
  pub end : file.end ≡ (manifest_of noted).end
  pub content : file.content ≡ Some (manifest_of noted).files

-- the manifest of noted files that are there and whose pieces tile the ranges is honest
abbrev pub HonestManifestLaw : Type 0
HonestManifestLaw =
    (s : Source) (ranges : List RangeFile) (noted : List Noted) → noted ≢ []
    → AllByRecursion (NotedThere ranges) noted → ArePieces (pieces_of noted)
    → AreTiling s.ranges noted → (file : ManifestFile) → SaysNoted noted file
    → IsHonestManifest s ranges file
