-- What the names of a container's files say without their bytes.
use Rattle.std.specs.Prelude.{◌≡◌, ℕ, ◌-◌, Bool, false, ◌||◌, List, [], ◌∷◌, map}
use Rattle.std.specs.Prelude.{Option, Some, None, option_map}
use Rattle.std.specs.List.{flat_map}
use Rattle.fb_bytes.specs.Bytes.{Bytes, is_same}
use Rattle.fb_outside.specs.declared.File.{File}
use Rattle.file_names.specs.declared.Name.{Name}
use Rattle.file_names.specs.declared.Name.TheVariants.{Range, Log, Manifest, Unreliable, Expired}
use Rattle.file_names.specs.declared.Name.TheVariants.{Other}
use Rattle.file_names.specs.Reading.{name_of}
pub use Rattle.container_view.specs.declared.chaining.Link.{Link}
use Rattle.container_view.specs.Folder.{LogFile, ManifestFile, Folder}
use Rattle.container_view.specs.Chain.{LogLink, links, chain}
use Rattle.container_view.specs.Advertised.{chosen, is_advertised}
use Rattle.container_view.specs.Bounds.{advertised_bounds}
use Rattle.container_view.specs.Files.{Grammars, inside, folder_of}

-- the names of a container's files in a store, as they stand in the container
abbrev pub names_inside : Bytes → List File → List Bytes
names_inside container files = map (λ file. file.name) (inside container files)

-- the names list this one
abbrev pub is_named : List Bytes → Bytes → Bool
is_named [] name = false
is_named (listed ∷ others) name = is_same listed name || is_named others name

-- a log file of which only the name is known
abbrev pub as_named_log : Bytes → Name → List LogFile
as_named_log name (Log begin end ticket block) =
    record { name = name; begin = begin; end = end; block = block; content = None } ∷ []
as_named_log name (Range snapshot version ticket block) = []
as_named_log name (Manifest begin end size ticket) = []
as_named_log name Unreliable = []
as_named_log name Expired = []
as_named_log name Other = []

-- the log files among these names
abbrev pub logs_named : List Bytes → List LogFile
logs_named names = flat_map (λ name. as_named_log name (name_of name)) names

-- a link by the name of its file
abbrev pub link_of : LogLink → Link
link_of link = record { name = link.file.name; from = link.from; to = link.to }

abbrev pub named_links : Option (List LogLink) → Option (List Link)
named_links found = option_map (map link_of) found

-- the links from a version until they reach the end, of the log files among these names
abbrev pub chain_named : List Bytes → ℕ → ℕ → Option (List Link)
chain_named names from to = named_links (links (to - from) (logs_named names) from to)

-- a manifest of which only the name is known, and the bytes that the name says
pub record Sealed : Type 0 where
  pub file : ManifestFile
  pub bytes : ℕ

-- the manifest of a name, where it is that of one
abbrev pub as_sealed : Bytes → Name → List Sealed
as_sealed name (Manifest begin end size ticket) =
    record {
      file = record { name = name; begin = begin; end = end; content = None };
      bytes = size;
    } ∷ []
as_sealed name (Range snapshot version ticket block) = []
as_sealed name (Log begin end ticket block) = []
as_sealed name Unreliable = []
as_sealed name Expired = []
as_sealed name Other = []

-- the manifests among these names with their bytes, in the order of the names
abbrev pub sealed_named : List Bytes → List Sealed
sealed_named names = flat_map (λ name. as_sealed name (name_of name)) names

-- the manifests among these names
abbrev pub manifests_named : List Bytes → List ManifestFile
manifests_named names = map (λ m. m.file) (sealed_named names)

-- the log files and the manifests among these names, as a folder
abbrev pub folder_named : List Bytes → ℕ → Folder
folder_named names unreliable =
    record {
      ranges = [];
      logs = logs_named names;
      manifests = manifests_named names;
      unreliable = unreliable;
    }

abbrev pub manifest_name : Option ManifestFile → Option Bytes
manifest_name found = option_map (λ m. m.name) found

-- a folder of names alone has the chains, the manifests and the advertised versions of the folder
pub record AreNamesOf (names : List Bytes) (folder : Folder) : Type 0 where
  pub chains : (from to : ℕ) → chain_named names from to ≡ named_links (chain folder from to)
  pub manifest : (version : ℕ)
      → manifest_name (chosen (folder_named names folder.unreliable) version)
      ≡ manifest_name (chosen folder version)
  pub advertised : (version : ℕ) → is_advertised (folder_named names folder.unreliable) version
      ≡ is_advertised folder version
  pub bounds : advertised_bounds (folder_named names folder.unreliable) ≡ advertised_bounds folder

-- the names of a folder's files tell this of the folder
abbrev pub NamesLaw : Type 0
NamesLaw = (g : Grammars) (files : List File) (folder : Folder) → folder_of g files ≡ Some folder
    → AreNamesOf (map (λ file. file.name) files) folder

-- a log file by its name and end
abbrev pub seen : Option LogFile → Option (Bytes × ℕ)
seen found = option_map (λ file. (file.name, file.end)) found
