-- Stores in which a container's files are honest, and the steps that keep them so.
use Rattle.std.specs.Prelude.{◌≡◌, ℕ, ◌<◌, ◌≤◌, ◌⊎◌, List, [], length, Option, Some, None}
use Rattle.std.specs.List.{AllByRecursion}
use Rattle.fb_bytes.specs.Bytes.{Bytes}
use Rattle.fb_bytes.specs.Options.{IsIn}
use Rattle.mutations.specs.Histories.{IsRising}
use Rattle.fb_outside.specs.Files.{AreFiles, file_of, with_file, without_file, names_in}
use Rattle.fb_outside.specs.declared.File.{File}
use Rattle.file_names.specs.declared.Name.{Name}
use Rattle.file_names.specs.declared.Name.TheVariants.{Range, Log, Manifest, Unreliable, Expired}
use Rattle.file_names.specs.declared.Name.TheVariants.{Other}
use Rattle.file_names.specs.Spelling.{expired_text}
use Rattle.file_names.specs.Reading.{name_of}
use Rattle.container_view.specs.Folder.{Folder}
use Rattle.container_view.specs.Law.{Source, IsHonestRange, IsHonestLog, IsHonestManifest, IsHonest}
use Rattle.container_view.specs.Law.{IsFaithful}
use Rattle.container_view.specs.Changes.{Grows, IsListedNowhere}
use Rattle.container_view.specs.Property.{property_of, property_in}
use Rattle.container_view.specs.Files.{Grammars, whole_name, name_in, inside, range_file, log_file}
use Rattle.container_view.specs.Files.{manifest_file, folder_in}

-- the expired end is a number, where its file is there
abbrev pub HasExpired : Bytes → List File → Type 0
HasExpired container files =
    (number : Option ℕ)
    × (property_in (file_of (inside container files) expired_text) ≡ Some number)

-- the container's files in the store spell an honest folder, and its other property is in its
-- grammar
pub record IsHonestStore (g : Grammars) (s : Source) (container : Bytes)
    (files : List File) : Type 0 where
  pub folder : Folder
  pub decoded : folder_in g container files ≡ Some folder
  pub honest : IsHonest s folder
  pub expired : HasExpired container files

-- the container's files in the store spell a faithful folder, and its other property is in its
-- grammar
pub record IsFaithfulStore (g : Grammars) (s : Source) (container : Bytes)
    (files : List File) : Type 0 where
  pub folder : Folder
  pub decoded : folder_in g container files ≡ Some folder
  pub faithful : IsFaithful s folder
  pub expired : HasExpired container files

-- what a new file owes, by what its name says; the folder is the one that it comes into
abbrev pub IsHonestFile : Grammars → Source → Folder → Bytes → Bytes → Name → Type 0
IsHonestFile g s folder name bytes (Range snapshot version ticket block) =
    IsHonestRange s (range_file g name bytes version block)
IsHonestFile g s folder name bytes (Log begin end ticket block) =
    IsHonestLog s (log_file g name bytes begin end block)
IsHonestFile g s folder name bytes (Manifest begin end size ticket) =
    folder.unreliable ≤ begin
    → IsHonestManifest s folder.ranges
    (manifest_file g name bytes (Manifest begin end size ticket) begin end)
IsHonestFile g s folder name bytes Unreliable =
    (end : ℕ) × (property_of bytes ≡ Some end) × (folder.unreliable ≤ end)
IsHonestFile g s folder name bytes Expired = (end : ℕ) × (property_of bytes ≡ Some end)
IsHonestFile g s folder name bytes Other = Unit {0}

-- a file may be deleted, by its name and what the name says
abbrev pub MayGo : Folder → Bytes → Name → Type 0
MayGo folder name (Range snapshot version ticket block) =
    (version < folder.unreliable) ⊎ IsListedNowhere folder name
MayGo folder name (Log begin end ticket block) = Unit {0}
MayGo folder name (Manifest begin end size ticket) = Unit {0}
MayGo folder name Unreliable = ⊥
MayGo folder name Expired = Unit {0}
MayGo folder name Other = Unit {0}

-- the names that a manifest lists, by its grammar; a file of another kind lists none
abbrev pub listed_by : Grammars → Name → Bytes → Option (List Bytes)
listed_by g (Manifest begin end size ticket) bytes =
    g.manifest (Manifest begin end size ticket) bytes
listed_by g (Range snapshot version ticket block) bytes = None
listed_by g (Log begin end ticket block) bytes = None
listed_by g Unreliable bytes = None
listed_by g Expired bytes = None
listed_by g Other bytes = None

-- no manifest of the container in the store lists the name
pub record IsUnlisted (g : Grammars) (container : Bytes) (files : List File)
    (name : Bytes) : Type 0 where
  pub each : (m bytes : Bytes) (names : List Bytes) → file_of files (whole_name container m)
      ≡ Some bytes → listed_by g (name_of m) bytes ≡ Some names → IsIn name names → ⊥

-- a log file or a manifest, which no range file has to do with
abbrev pub IsLogOrManifest : Name → Type 0
IsLogOrManifest (Range snapshot version ticket block) = ⊥
IsLogOrManifest (Log begin end ticket block) = Unit {0}
IsLogOrManifest (Manifest begin end size ticket) = Unit {0}
IsLogOrManifest Unreliable = ⊥
IsLogOrManifest Expired = ⊥
IsLogOrManifest Other = ⊥

-- a property, which a put may replace
abbrev pub IsProperty : Name → Type 0
IsProperty (Range snapshot version ticket block) = ⊥
IsProperty (Log begin end ticket block) = ⊥
IsProperty (Manifest begin end size ticket) = ⊥
IsProperty Unreliable = Unit {0}
IsProperty Expired = Unit {0}
IsProperty Other = ⊥

-- a container stays honest as an honest file is put under a name that no manifest of it lists,
-- whether or not a file had it
abbrev pub PlaceLaw : Type 0
PlaceLaw = (g : Grammars) (s : Source) (container whole name bytes : Bytes) (files : List File)
    (h : IsHonestStore g s container files) → AreFiles files → name_in container whole ≡ Some name
    → IsUnlisted g container files name → IsHonestFile g s h.folder name bytes (name_of name)
    → IsHonestStore g s container (with_file files whole bytes)

pub record HonestStoreLaw : Type 0 where
  -- a container without files is honest
  pub opens : (g : Grammars) (s : Source) (container : Bytes) (files : List File)
      → IsRising s.history → AllByRecursion (λ x. x.version ≤ s.now) s.history
      → 0 < length container → names_in container files ≡ [] → IsHonestStore g s container files
  -- an honest container is faithful, in whatever store
  pub faithful : (g : Grammars) (s : Source) (container : Bytes) (files : List File)
      → IsHonestStore g s container files → IsFaithfulStore g s container files
  -- it stays honest while the history grows
  pub grows : (g : Grammars) (old new : Source) (container : Bytes) (files : List File)
      → Grows old new → IsHonestStore g old container files → IsHonestStore g new container files
  -- it stays honest as an honest file comes under a new name
  pub put : (g : Grammars) (s : Source) (container whole name bytes : Bytes) (files : List File)
      (h : IsHonestStore g s container files) → AreFiles files → name_in container whole ≡ Some name
      → file_of files whole ≡ None → IsHonestFile g s h.folder name bytes (name_of name)
      → IsHonestStore g s container (with_file files whole bytes)
  -- and as a property is put, whether or not it was there
  pub set : (g : Grammars) (s : Source) (container whole name bytes : Bytes) (files : List File)
      (h : IsHonestStore g s container files) → AreFiles files → name_in container whole ≡ Some name
      → IsProperty (name_of name) → IsHonestFile g s h.folder name bytes (name_of name)
      → IsHonestStore g s container (with_file files whole bytes)
  -- and as an honest file comes over an old one that no manifest lists, or under a new name
  pub place : PlaceLaw
  -- and as a log file or a manifest comes over whatever had its name; the range files and the
  -- unreliable end stay
  pub place_beside : (g : Grammars) (s : Source) (container whole name bytes : Bytes)
      (files : List File) (h : IsHonestStore g s container files) → AreFiles files
      → name_in container whole ≡ Some name → IsLogOrManifest (name_of name)
      → IsHonestFile g s h.folder name bytes (name_of name)
      → (after : IsHonestStore g s container (with_file files whole bytes))
      × (after.folder.ranges ≡ h.folder.ranges) × (after.folder.unreliable ≡ h.folder.unreliable)
  -- and as a file is deleted that may go
  pub delete : (g : Grammars) (s : Source) (container whole name : Bytes) (files : List File)
      (h : IsHonestStore g s container files) → AreFiles files → name_in container whole ≡ Some name
      → MayGo h.folder name (name_of name) → IsHonestStore g s container (without_file files whole)
  -- and as any file comes or goes that isn't in the container
  pub put_elsewhere : (g : Grammars) (s : Source) (container whole bytes : Bytes)
      (files : List File) → IsHonestStore g s container files → name_in container whole ≡ None
      → IsHonestStore g s container (with_file files whole bytes)
  pub deleted_elsewhere : (g : Grammars) (s : Source) (container whole : Bytes) (files : List File)
      → IsHonestStore g s container files → name_in container whole ≡ None
      → IsHonestStore g s container (without_file files whole)
  -- a name that no manifest in the store lists, no manifest of the folder lists
  pub unlisted : (g : Grammars) (container name : Bytes) (files : List File) (folder : Folder)
      → AreFiles files → folder_in g container files ≡ Some folder
      → IsUnlisted g container files name → IsListedNowhere folder name
