-- What the writers of a container keep, and what its readers may rely on.
use Rattle.std.specs.Prelude.{◌≡◌, ℕ, ◌+◌, ◌≤◌, true, List, Option, Some, is_some}
use Rattle.std.specs.List.{AllByRecursion}
use Rattle.fb_bytes.specs.Bytes.{Bytes}
use Rattle.fb_bytes.specs.declared.KeyRange.{KeyRange}
use Rattle.fb_bytes.specs.Keys.{holds, in_ranges, cut}
use Rattle.fb_bytes.specs.Options.{IsIn, each_of}
use Rattle.fb_bytes.specs.Pairs.{value_of}
use Rattle.block_frame.specs.Profiles.{limit_of}
use Rattle.mutations.specs.declared.Entry.{Entry}
use Rattle.mutations.specs.Histories.{IsRising, state_at, logged}
use Rattle.container_view.specs.Folder.{RangeContent, RangeFile, LogFile, ManifestFile, Folder}
use Rattle.container_view.specs.Advertised.{is_advertised}
use Rattle.container_view.specs.Meaning.{Piece, piece_named, are_disjoint, piece_of, means}

-- what a container is a backup of: a history up to now, in these ranges, in files of this block
pub record Source : Type 0 where
  pub history : List Entry
  pub now : ℕ
  pub ranges : List KeyRange
  pub block : ℕ

-- the value of a key of the database at a version
abbrev pub value_in : Source → ℕ → Bytes → Option Bytes
value_in s version key = state_at (limit_of s.block) s.history version key

-- the body has the pairs of its range at that version
abbrev pub HasState : Source → ℕ → RangeContent → Type 0
HasState s version body =
    (key : Bytes) → holds body.range key ≡ true → value_of body.pairs key ≡ value_in s version key

-- a range file that has the pairs of its range at its version
pub record IsHonestRange (s : Source) (file : RangeFile) : Type 0 where
  pub past : file.version ≤ s.now
  pub block : file.block ≡ s.block
  pub body : RangeContent
  pub content : file.content ≡ Some body
  pub state : HasState s file.version body

-- a log file that has what is logged from its begin to its end
pub record IsHonestLog (s : Source) (file : LogFile) : Type 0 where
  pub past : file.end ≤ s.now + 1
  pub block : file.block ≡ s.block
  pub content : file.content ≡ Some (logged s.history s.ranges file.begin file.end)

-- begin and end are the least and the greatest version of the pieces
pub record Spans (begin end : ℕ) (pieces : List Piece) : Type 0 where
  pub within : (p : Piece) → IsIn p pieces → (begin ≤ p.version) × (p.version ≤ end)
  pub least : (p : Piece) × IsIn p pieces × (p.version ≡ begin)
  pub greatest : (p : Piece) × IsIn p pieces × (p.version ≡ end)

-- a manifest whose range files are there, don't overlap, and together hold the keys of the ranges
pub record IsHonestManifest (s : Source) (ranges : List RangeFile)
    (file : ManifestFile) : Type 0 where
  pub names : List Bytes
  pub content : file.content ≡ Some names
  pub pieces : List Piece
  pub named : each_of (piece_named ranges) names ≡ Some pieces
  pub spans : Spans file.begin file.end pieces
  pub disjoint : are_disjoint pieces ≡ true
  pub cover : (key : Bytes) → is_some (piece_of pieces key) ≡ in_ranges s.ranges key

-- a folder whose writers were honest; of manifests below the unreliable end nothing is asked
pub record IsHonest (s : Source) (folder : Folder) : Type 0 where
  pub rising : IsRising s.history
  pub past : AllByRecursion (λ x. x.version ≤ s.now) s.history
  pub ranges : (file : RangeFile) → IsIn file folder.ranges → IsHonestRange s file
  pub logs : (file : LogFile) → IsIn file folder.logs → IsHonestLog s file
  pub manifests : (file : ManifestFile) → IsIn file folder.manifests
      → folder.unreliable ≤ file.begin → IsHonestManifest s folder.ranges file

-- the value of a key at a version, where the key is in the ranges
abbrev pub true_value : Source → ℕ → Bytes → Option Bytes
true_value s version key = cut (value_in s version) s.ranges key

-- what a reader may rely on at a version: it is past, and the files mean the state of the database,
-- cut to the ranges
pub record IsFaithfulAt (s : Source) (folder : Folder) (version : ℕ) : Type 0 where
  pub past : version ≤ s.now
  pub meaning : Bytes → Option Bytes
  pub defined : means folder version ≡ Some meaning
  pub same : (key : Bytes) → meaning key ≡ true_value s version key

-- each advertised version may be relied on
pub record IsFaithful (s : Source) (folder : Folder) : Type 0 where
  pub each : (version : ℕ) → is_advertised folder version ≡ true → IsFaithfulAt s folder version

-- what honest writers leave, every reader finds
abbrev pub ContainerLaw : Type 0
ContainerLaw = (s : Source) (folder : Folder) → IsHonest s folder → IsFaithful s folder
