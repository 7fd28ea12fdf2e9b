-- What a step on a store's files does to the folder of a container.
use Rattle.std.specs.Prelude.{◌≡◌, ℕ, false, List, Some, None}
use Rattle.std.specs.List.{AllByRecursion}
use Rattle.fb_bytes.specs.Bytes.{Bytes, is_same}
use Rattle.fb_outside.specs.Files.{AreFiles, file_of, with_file, without_file}
use Rattle.fb_outside.specs.declared.File.{File}
use Rattle.file_names.specs.declared.Name.{Name}
use Rattle.file_names.specs.declared.Name.TheVariants.{Range, Log, Manifest, Unreliable, Expired}
use Rattle.file_names.specs.declared.Name.TheVariants.{Other}
use Rattle.file_names.specs.Spelling.{unreliable_text}
use Rattle.file_names.specs.Reading.{name_of}
use Rattle.container_view.specs.Folder.{RangeFile, LogFile, ManifestFile, Folder}
use Rattle.container_view.specs.Property.{property_of}
use Rattle.container_view.specs.Files.{Grammars, whole_name, name_in, range_file, log_file}
use Rattle.container_view.specs.Files.{manifest_file, folder_in}
use Rattle.container_view.specs.Changes.{Inserts}

-- One of two folders has one file more than the other, by what its name says. Nothing else differs.
abbrev pub OneMore : Grammars → Bytes → Bytes → Name → Folder → Folder → Type 0
OneMore g name bytes (Range snapshot version ticket block) few many =
    (ranges : List RangeFile) × Inserts (range_file g name bytes version block) few.ranges ranges
    × (many ≡ record few { ranges = ranges })
OneMore g name bytes (Log begin end ticket block) few many =
    (logs : List LogFile) × Inserts (log_file g name bytes begin end block) few.logs logs
    × (many ≡ record few { logs = logs })
OneMore g name bytes (Manifest begin end size ticket) few many =
    (manifests : List ManifestFile)
    × Inserts (manifest_file g name bytes (Manifest begin end size ticket) begin end) few.manifests
    manifests × (many ≡ record few { manifests = manifests })
OneMore g name bytes Unreliable few many = (end : ℕ) × (many ≡ record few { unreliable = end })
OneMore g name bytes Expired few many = many ≡ few
OneMore g name bytes Other few many = many ≡ few

-- a container's file that isn't the property of the unreliable end
pub record IsOf (container whole name : Bytes) : Type 0 where
  pub is_in : name_in container whole ≡ Some name
  pub other : is_same name unreliable_text ≡ false

pub record StoreLaw : Type 0 where
  -- a file under a new name is one more file of its kind
  pub put : (g : Grammars) (container whole name bytes : Bytes) (files : List File) (few : Folder)
      → IsOf container whole name → file_of files whole ≡ None → folder_in g container files
      ≡ Some few → (many : Folder)
      × (folder_in g container (with_file files whole bytes) ≡ Some many)
      × OneMore g name bytes (name_of name) few many
  -- no range file has the new name
  pub fresh : (g : Grammars) (container whole name : Bytes) (files : List File) (few : Folder)
      → name_in container whole ≡ Some name → file_of files whole ≡ None
      → folder_in g container files ≡ Some few
      → AllByRecursion (λ file. is_same file.name name ≡ false) few.ranges
  -- without one of the files there is one less of its kind
  pub delete : (g : Grammars) (container whole name bytes : Bytes) (files : List File)
      (many : Folder) → AreFiles files → IsOf container whole name
      → file_of files whole ≡ Some bytes → folder_in g container files ≡ Some many → (few : Folder)
      × (folder_in g container (without_file files whole) ≡ Some few)
      × OneMore g name bytes (name_of name) few many
  -- the property says the unreliable end, whether or not it was there
  pub raise : (g : Grammars) (container whole bytes : Bytes) (files : List File) (old : Folder)
      (end : ℕ) → AreFiles files → name_in container whole ≡ Some unreliable_text
      → property_of bytes ≡ Some end → folder_in g container files ≡ Some old
      → folder_in g container (with_file files whole bytes) ≡ Some (record old { unreliable = end })
  -- the bytes that a file has already change nothing, and no more does the deletion of a file that
  -- isn't there
  pub again : (whole bytes : Bytes) (files : List File) → AreFiles files
      → file_of files whole ≡ Some bytes → with_file files whole bytes ≡ files
  pub gone : (whole : Bytes) (files : List File) → file_of files whole ≡ None
      → without_file files whole ≡ files
  -- other bytes for a file are the same as the deletion of it and then the file
  pub replace : (whole bytes : Bytes) (files : List File) → AreFiles files
      → with_file files whole bytes ≡ with_file (without_file files whole) whole bytes
  -- a file that isn't in the container is nothing to it
  pub elsewhere : (g : Grammars) (container whole bytes : Bytes) (files : List File)
      → name_in container whole ≡ None → folder_in g container (with_file files whole bytes)
      ≡ folder_in g container files
  pub deleted_elsewhere : (g : Grammars) (container whole : Bytes) (files : List File)
      → name_in container whole ≡ None → folder_in g container (without_file files whole)
      ≡ folder_in g container files
  -- a file's whole name is the only one that has its name in the container
  pub whole_in : (container name : Bytes) → name_in container (whole_name container name)
      ≡ Some name
