-- What is read of a container before a version is restored, or the first fault.
use Rattle.std.specs.Prelude.{◌≡◌, ℕ, ◌+◌, List, [], ◌∷◌, map, false, Option, Some, None, Result}
use Rattle.std.specs.Prelude.{Ok, Err, ok_or, unwrap_or, ◌⊎◌, if◌then◌else◌}
use Rattle.fb_bytes.specs.Bytes.{Bytes}
use Rattle.fb_bytes.specs.Options.{IsIn}
pub use Rattle.fb_bytes.specs.Results.{◌>>=◌}
use Rattle.fb_outside.specs.Files.{AreFiles, file_of}
use Rattle.fb_outside.specs.declared.File.{File}
use Rattle.file_names.specs.declared.Name.TheVariants.{Range, Log}
use Rattle.file_names.specs.Reading.{name_of}
use Rattle.file_names.specs.Spelling.{unreliable_text, expired_text}
use Rattle.manifests.specs.declared.Manifest.{Manifest}
use Rattle.manifests.specs.Reading.{manifest_read}
pub use Rattle.container_view.specs.declared.restoring.RestoreSet.{RestoreSet}
use Rattle.container_view.specs.declared.view.FileFault.{FileFault}
use Rattle.container_view.specs.declared.view.FileFault.TheVariants as file_faults
use Rattle.container_view.specs.declared.view.ViewFault.{ViewFault}
use Rattle.container_view.specs.declared.view.ViewFault.TheVariants as faults
use Rattle.container_view.specs.Folder.{LogFile, ManifestFile, Folder}
use Rattle.container_view.specs.Chain.{chain}
use Rattle.container_view.specs.Advertised.{chosen, is_advertised}
use Rattle.container_view.specs.Bounds.{Bounds, advertised_bounds}
use Rattle.container_view.specs.Meaning.{Piece, Needed, piece_named, needed}
use Rattle.container_view.specs.Contents.{file_grammars}
use Rattle.container_view.specs.Files.{inside, folder_of, folder_in}
use Rattle.container_view.specs.Names.{Link, is_named, folder_named, manifest_name, named_links}
use Rattle.container_view.specs.Names.{chain_named}
use Rattle.container_view.specs.Property.{property_in}

-- a failed call answers a fault of the store, want of memory, or the first fault that reading the
-- files meets
abbrev pub Fails : {A : Type 0} → ViewFault → Result A ViewFault → Type 0
Fails fault reading =
    (fault ≡ faults.VaultFault) ⊎ ((fault ≡ faults.NoMemory) ⊎ (reading ≡ Err fault))

-- what a file says, or its fault
abbrev pub in_file : {A E : Type 0} → (E → FileFault) → Bytes → Result A E → Result A ViewFault
in_file kind name (Ok x) = Ok x
in_file kind name (Err fault) = Err (faults.Damaged name (kind fault))

-- a property's number, if its file is there
abbrev pub property_read : List File → Bytes → Result (Option ℕ) ViewFault
property_read files name =
    ok_or (property_in (file_of files name)) (faults.Damaged name file_faults.Property)

-- the manifest of a name
abbrev pub manifest_at : List File → Bytes → Result Manifest ViewFault
manifest_at files name = do
  bytes ← ok_or (file_of files name) (faults.Missing name)
  in_file (λ fault. file_faults.Manifest fault) name (manifest_read (name_of name) bytes)

-- the refusal of a version that isn't advertised
abbrev pub not_restorable : Option Bounds → ViewFault
not_restorable None = faults.NotRestorable None None
not_restorable (Some bounds) = faults.NotRestorable (Some bounds.least) (Some bounds.greatest)

-- the first of the wanted names that isn't listed
abbrev pub first_unlisted : List Bytes → List Bytes → Option Bytes
first_unlisted names [] = None
first_unlisted names (name ∷ wanted) =
    if is_named names name then first_unlisted names wanted else Some name

-- the links of a chain; without a chain there are none
abbrev pub links_or_none : Option (List Link) → List Link
links_or_none None = []
links_or_none (Some links) = links

-- a manifest, its range files in its order, and the links that go past the version
abbrev pub set_with : List Bytes → Manifest → ℕ → Option Bytes → Result RestoreSet ViewFault
set_with names manifest version (Some name) = Err (faults.Missing name)
set_with names manifest version None =
    Ok (record {
      manifest = manifest;
      ranges = manifest.files;
      links = links_or_none (chain_named names manifest.begin (version + 1));
    })

-- the set by the names and the unreliable end
abbrev pub set_by : List File → List Bytes → ℕ → ℕ → Result RestoreSet ViewFault
set_by files names unreliable version = do
  name ← ok_or (manifest_name (chosen (folder_named names unreliable) version))
      (not_restorable (advertised_bounds (folder_named names unreliable)))
  manifest ← manifest_at files name
  set_with names manifest version (first_unlisted names manifest.files)

-- What is read of a container with these files, or the first fault: that it has no file, a
-- property, unreliable first, and then what the names and both properties come to.
abbrev pub with_properties : {A : Type 0} → List File
    → (List Bytes → Option ℕ → Option ℕ → Result A ViewFault) → Result A ViewFault
with_properties [] next = Err faults.NoContainer
with_properties (file ∷ files) next = do
  unreliable ← property_read (file ∷ files) unreliable_text
  expired ← property_read (file ∷ files) expired_text
  next (map (λ (f : File). f.name) (file ∷ files)) unreliable expired

-- the set by the names and the properties
abbrev pub set_then : List File → ℕ → List Bytes → Option ℕ → Option ℕ
    → Result RestoreSet ViewFault
set_then files version names unreliable expired =
    set_by files names (unwrap_or unreliable 0) version

-- What is read for a version of a container with these files, or the first fault: that it has no
-- file, a property, unreliable first, that the version isn't advertised, the chosen manifest, a
-- range file of it that isn't there.
abbrev pub set_of : List File → ℕ → Result RestoreSet ViewFault
set_of files version = with_properties files (set_then files version)

-- the set is of the chosen manifest and of its chain past the version
pub record IsSetOf (folder : Folder) (version : ℕ) (set : RestoreSet) : Type 0 where
  pub manifest : ManifestFile
  pub chosen_is : chosen folder version ≡ Some manifest
  pub content : manifest.content ≡ Some set.ranges
  pub ranges : set.ranges ≡ set.manifest.files
  pub links : set.links ≡ links_or_none (named_links (chain folder manifest.begin (version + 1)))

-- the bytes of a range file of the container, and what they say
pub record IsRangeIn (container : Bytes) (files : List File) (name : Bytes)
    (piece : Piece) : Type 0 where
  pub bytes : Bytes
  pub is : file_of (inside container files) name ≡ Some bytes
  pub snapshot : ℕ
  pub ticket : ℕ
  pub block : ℕ
  pub named : name_of name ≡ Range snapshot piece.version ticket block
  pub read : file_grammars.range block bytes
      ≡ Some (record { range = piece.range; pairs = piece.pairs })

-- the bytes of a log file of the container, and what they say
pub record IsLogIn (container : Bytes) (files : List File) (log : LogFile) : Type 0 where
  pub bytes : Bytes
  pub is : file_of (inside container files) log.name ≡ Some bytes
  pub ticket : ℕ
  pub named : name_of log.name ≡ Log log.begin log.end ticket log.block
  pub read : file_grammars.log log.begin log.end log.block bytes ≡ log.content

pub record SetLaw : Type 0 where
  -- what is read for a version is the chosen manifest with its chain
  pub is_set : (container : Bytes) (files : List File) (folder : Folder) (version : ℕ)
      (set : RestoreSet) → AreFiles files → folder_in file_grammars container files ≡ Some folder
      → set_of (inside container files) version ≡ Ok set → IsSetOf folder version set
  -- something is read only where the files spell a folder
  pub opens : (files : List File) (version : ℕ) (set : RestoreSet) → set_of files version ≡ Ok set
      → (folder : Folder) × (folder_of file_grammars files ≡ Some folder)
  -- a version is refused exactly where it isn't advertised, with the least and the greatest that
  -- are
  pub refused : (files : List File) (folder : Folder) (version : ℕ) (low high : Option ℕ)
      → folder_of file_grammars files ≡ Some folder
      → set_of files version ≡ Err (faults.NotRestorable low high)
      → (is_advertised folder version ≡ false)
      × (faults.NotRestorable low high ≡ not_restorable (advertised_bounds folder))
  pub advertised : (files : List File) (folder : Folder) (version : ℕ)
      → folder_of file_grammars files ≡ Some folder → is_advertised folder version ≡ false
      → (number : Option ℕ) → property_in (file_of files expired_text) ≡ Some number → (files ≡ [])
      ⊎ (set_of files version ≡ Err (not_restorable (advertised_bounds folder)))
  -- where all that is needed is there, it is read
  pub complete : (container : Bytes) (files : List File) (folder : Folder) (version : ℕ)
      (n : Needed) (number : Option ℕ) → AreFiles files → folder_in file_grammars container files
      ≡ Some folder → property_in (file_of (inside container files) expired_text) ≡ Some number
      → needed folder version ≡ Some n → (set : RestoreSet)
      × (set_of (inside container files) version ≡ Ok set)
  -- a range file or a log file of the folder is a file of the container under its name
  pub range_found : (container : Bytes) (files : List File) (folder : Folder) (name : Bytes)
      (piece : Piece) → AreFiles files → folder_in file_grammars container files ≡ Some folder
      → piece_named folder.ranges name ≡ Some piece → IsRangeIn container files name piece
  pub log_found : (container : Bytes) (files : List File) (folder : Folder) (log : LogFile)
      → AreFiles files → folder_in file_grammars container files ≡ Some folder
      → IsIn log folder.logs → IsLogIn container files log
