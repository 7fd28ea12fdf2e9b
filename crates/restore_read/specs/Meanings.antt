-- That what is loaded says what the container means.
use Rattle.std.specs.Prelude.{◌≡◌, ℕ, true, List, Option, Some, Ok}
use Rattle.fb_bytes.specs.Bytes.{Bytes}
use Rattle.fb_outside.specs.Files.{AreFiles, file_of}
use Rattle.fb_outside.specs.declared.File.{File}
use Rattle.file_names.specs.Spelling.{expired_text}
use Rattle.container_view.specs.Advertised.{is_advertised}
use Rattle.container_view.specs.Contents.{file_grammars}
use Rattle.container_view.specs.Files.{inside, folder_in}
use Rattle.container_view.specs.Folder.{Folder}
use Rattle.container_view.specs.Honest.{IsFaithfulStore}
use Rattle.container_view.specs.Law.{Source, true_value}
use Rattle.container_view.specs.Meaning.{means}
use Rattle.container_view.specs.Property.{property_in}
use Rattle.restore_apply.specs.declared.Loaded.{Loaded}
use Rattle.restore_apply.specs.Loaded.{loaded_at}
use Rattle.restore_read.specs.Reading.{loaded_of}

-- the container's files in the store have a meaning at the version, and this is it
pub record Means (container : Bytes) (files : List File) (version : ℕ) (state : Bytes
    → Option Bytes) : Type 0 where
  pub folder : Folder
  pub decoded : folder_in file_grammars container files ≡ Some folder
  pub meaning : Bytes → Option Bytes
  pub defined : means folder version ≡ Some meaning
  pub same : (key : Bytes) → state key ≡ meaning key

-- something is loaded, and says that
pub record Loads (container : Bytes) (files : List File) (version : ℕ) (state : Bytes
    → Option Bytes) : Type 0 where
  pub set : Loaded
  pub is : loaded_of (inside container files) version ≡ Ok set
  pub same : (key : Bytes) → loaded_at set version key ≡ state key

pub record RestoreLaw : Type 0 where
  -- what is loaded for a version says what the container means
  pub meant : (container : Bytes) (files : List File) (version : ℕ) (set : Loaded) → AreFiles files
      → loaded_of (inside container files) version ≡ Ok set
      → Means container files version (loaded_at set version)
  -- where the container has a meaning at a version, and its other property is in its grammar, it is
  -- loaded
  pub loads : (container : Bytes) (files : List File) (folder : Folder) (version : ℕ)
      (meaning : Bytes → Option Bytes) (number : Option ℕ) → AreFiles files
      → folder_in file_grammars container files ≡ Some folder → means folder version ≡ Some meaning
      → property_in (file_of (inside container files) expired_text) ≡ Some number
      → Loads container files version meaning
  -- each version that a faithful container advertises is loaded, and says what its source had
  pub faithful : (s : Source) (container : Bytes) (files : List File) (version : ℕ) → AreFiles files
      → (h : IsFaithfulStore file_grammars s container files) → is_advertised h.folder version
      ≡ true → Loads container files version (true_value s version)
