-- The laws of other crates that the machine's proofs use.
use Rattle.std.specs.Prelude.{◌≡◌, ℕ, ◌<◌, ◌≤◌, true, false, List, length, map, Some, None}
use Rattle.std.specs.List.{AllByRecursion}
use Rattle.fb_bytes.specs.Bytes.{Bytes, is_same}
use Rattle.fb_bytes.specs.declared.Pair.{Pair}
use Rattle.fb_bytes.specs.Keys.{in_ranges}
use Rattle.fb_bytes.specs.Options.{IsIn}
use Rattle.fb_outside.specs.declared.File.{File}
use Rattle.fb_outside.specs.Files.{AreFiles, file_of, with_file}
use Rattle.mutations.specs.Laws.{LoggedLaw}
use Rattle.file_names.specs.declared.Name.{Name}
use Rattle.file_names.specs.declared.Name.TheVariants.{Range}
use Rattle.file_names.specs.Spelling.{IsNameOf}
use Rattle.file_names.specs.Reading.{name_of}
use Rattle.manifests.specs.declared.Manifest.{Manifest}
use Rattle.manifests.specs.Files.{version_of}
use Rattle.manifests.specs.Grammar.{IsWhole, ManifestText, name_for, manifest_text}
use Rattle.container_view.specs.Contents.{ContentsLaw, file_grammars}
use Rattle.container_view.specs.Files.{whole_name, name_in, range_file, folder_in}
use Rattle.container_view.specs.Folder.{Folder, RangeFile, ManifestFile}
use Rattle.container_view.specs.Honest.{HonestStoreLaw}
use Rattle.container_view.specs.Law.{Source, IsHonestManifest}
use Rattle.container_view.specs.Meaning.{piece_named, read_range}
use Rattle.snapshot_plan.specs.declared.Noted.{Noted}
use Rattle.snapshot_plan.specs.Noted.{pieces_of, manifest_of}
use Rattle.snapshot_plan.specs.Pieces.{ArePieces}
use Rattle.snapshot_plan.specs.Laws.{PieceLaw}
use Rattle.snapshot_plan.specs.Listing.{AreDistinct}
use Rattle.workload_text.specs.Commands.{is_container_name}
use Rattle.database.specs.Laws.{DumpLaw, CommitLaw}
use Rattle.task_bucket.specs.HoldersLaws.{HoldersLaw}
use Rattle.task_bucket.specs.Laws.{SumsLaw}
use Rattle.cluster_core.specs.Sound.{IsDrawn, unreliable_in}

-- what puts and look-ups of files do
pub record FilesKnown : Type 0 where
  pub put_same : (files : List File) (whole bytes : Bytes) → file_of (with_file files whole bytes) whole ≡ Some bytes
  pub put_other : (files : List File) (whole bytes other : Bytes) → is_same whole other ≡ false → file_of (with_file files whole bytes) other ≡ file_of files other
  pub ordered : (files : List File) (whole bytes : Bytes) → AreFiles files → AreFiles (with_file files whole bytes)
  pub found : (container whole name bytes : Bytes) (files : List File) (folder : Folder) (snapshot version ticket block : ℕ) → AreFiles files → name_in container whole ≡ Some name → file_of files whole ≡ Some bytes → name_of name ≡ Range snapshot version ticket block → folder_in file_grammars container files ≡ Some folder → piece_named folder.ranges name ≡ read_range (range_file file_grammars name bytes version block)
  pub apart : (container other name : Bytes) → is_container_name container ≡ true → is_container_name other ≡ true → is_same container other ≡ false → name_in other (whole_name container name) ≡ None
  pub whole_in : (container name : Bytes) → name_in container (whole_name container name) ≡ Some name
  pub unreliable : (container : Bytes) (files : List File) (folder : Folder) → folder_in file_grammars container files ≡ Some folder → unreliable_in container files ≡ Some folder.unreliable

-- a noted piece is among the range files of a folder
abbrev pub IsRead : List RangeFile → Noted → Type 0
IsRead ranges noted = (pairs : List Pair) × (piece_named ranges noted.file.name ≡ Some (record { version = noted.file.version; range = noted.piece; pairs = pairs }))

-- what manifests of noted pieces are
pub record ManifestsKnown : Type 0 where
  pub honest : (s : Source) (ranges : List RangeFile) (noted : List Noted) (file : ManifestFile) → 0 < length noted → AllByRecursion (IsRead ranges) noted → ArePieces (pieces_of noted) → ((key : Bytes) → in_ranges (pieces_of noted) key ≡ in_ranges s.ranges key) → file.begin ≡ (manifest_of noted).begin → file.end ≡ (manifest_of noted).end → file.content ≡ Some (manifest_of noted).files → IsHonestManifest s ranges file
  pub whole : (noted : List Noted) → 0 < length noted → AllByRecursion (λ n. version_of n.file.name ≡ Some n.file.version) noted → AreDistinct (map (λ n. n.file.name) noted) → IsWhole (manifest_of noted)
  pub begin : (noted : List Noted) → 0 < length noted → (n : Noted) → IsIn n noted → (manifest_of noted).begin ≤ n.file.version
  pub order : (noted : List Noted) → (manifest_of noted).begin ≤ (manifest_of noted).end
  pub end : (noted : List Noted) (most : ℕ) → AllByRecursion (λ n. n.file.version ≤ most) noted → (manifest_of noted).end ≤ most
  -- it lists the names of noted files alone
  pub listed : (tickets : ℕ) (noted : List Noted) → AllByRecursion (λ n. IsDrawn tickets n.file.name) noted → AllByRecursion (IsDrawn tickets) (manifest_of noted).files
  pub written : (m : Manifest) (ticket : ℕ) → IsWhole m → m.bytes ≤ 9223372036854775807 → ManifestText (name_for m ticket) (manifest_text m) m

pub record Known : Type 0 where
  pub names : (text : Bytes) (name : Name) → IsNameOf text name → name_of text ≡ name
  pub files : FilesKnown
  pub store : HonestStoreLaw
  pub contents : ContentsLaw
  pub dump : DumpLaw
  pub commit : CommitLaw
  pub piece : PieceLaw
  pub logged : LoggedLaw
  pub manifests : ManifestsKnown
  pub sums : SumsLaw
  pub holders : HoldersLaw
