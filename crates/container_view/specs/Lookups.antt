-- What is found in a store's files, and in which container it stands.
use Rattle.std.specs.Prelude.{◌≡◌, ℕ, ◌<◌, true, false, List, [], length, Some, None}
use Rattle.fb_bytes.specs.Bytes.{Bytes, is_same}
use Rattle.fb_outside.specs.Files.{AreFiles, file_of, with_file, without_file, names_in}
use Rattle.fb_outside.specs.declared.File.{File}
use Rattle.file_names.specs.declared.Name.TheVariants.{Range}
use Rattle.file_names.specs.Reading.{name_of}
use Rattle.container_view.specs.Folder.{Folder}
use Rattle.container_view.specs.Meaning.{read_range, piece_named}
use Rattle.container_view.specs.Changes.{no_files}
use Rattle.container_view.specs.Files.{Grammars, whole_name, name_in, has_no_slash, inside}
use Rattle.container_view.specs.Files.{range_file, folder_in}

pub record FileLaw : Type 0 where
  -- a file that was put is found, and each other name has what it had
  pub put_same : (files : List File) (whole bytes : Bytes)
      → file_of (with_file files whole bytes) whole ≡ Some bytes
  pub put_other : (files : List File) (whole bytes other : Bytes) → is_same whole other ≡ false
      → file_of (with_file files whole bytes) other ≡ file_of files other
  -- a file that was deleted isn't found, and each other name has what it had
  pub deleted_same : (files : List File) (whole : Bytes) → file_of (without_file files whole) whole
      ≡ None
  pub deleted_other : (files : List File) (whole other : Bytes) → is_same whole other ≡ false
      → file_of (without_file files whole) other ≡ file_of files other
  -- the names rise after both
  pub files_put : (files : List File) (whole bytes : Bytes) → AreFiles files
      → AreFiles (with_file files whole bytes)
  pub files_deleted : (files : List File) (whole : Bytes) → AreFiles files
      → AreFiles (without_file files whole)
  -- two whole names in a container are the same where the names are
  pub whole_inj : (container a b : Bytes)
      → is_same (whole_name container a) (whole_name container b) ≡ is_same a b
  -- a file of a container isn't in another one, where neither has a slash in its name
  pub apart : (container other name : Bytes) → has_no_slash container ≡ true
      → has_no_slash other ≡ true → is_same container other ≡ false
      → name_in other (whole_name container name) ≡ None
  -- a range file in the store is the one that the folder has of its name
  pub found : (g : Grammars) (container whole name bytes : Bytes) (files : List File)
      (folder : Folder) (snapshot version ticket block : ℕ) → AreFiles files
      → name_in container whole ≡ Some name → file_of files whole ≡ Some bytes
      → name_of name ≡ Range snapshot version ticket block → folder_in g container files
      ≡ Some folder → piece_named folder.ranges name
      ≡ read_range (range_file g name bytes version block)
  -- where no name stands under a container, it has no files, and is an empty folder
  pub empty : (container : Bytes) (files : List File) → 0 < length container
      → names_in container files ≡ [] → inside container files ≡ []
  pub empty_folder : (g : Grammars) (container : Bytes) (files : List File) → 0 < length container
      → names_in container files ≡ [] → folder_in g container files ≡ Some no_files
