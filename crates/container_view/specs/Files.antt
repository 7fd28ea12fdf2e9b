-- The folder that a store's files spell.
use Rattle.std.specs.Prelude.{ℕ, Bool, not, ◌==◌, List, [], ◌∷◌, ◌++◌, Option, Some, None}
use Rattle.std.specs.List.{list_all, flat_map}
use Rattle.fb_bytes.specs.Bytes.{Bytes}
use Rattle.fb_bytes.specs.Options.{◌>>=◌}
use Rattle.mutations.specs.declared.Batch.{Batch}
use Rattle.fb_outside.specs.Files.{file_of}
use Rattle.fb_outside.specs.declared.File.{File}
use Rattle.file_names.specs.declared.Name.{Name}
use Rattle.file_names.specs.declared.Name.TheVariants.{Range, Log, Manifest, Unreliable, Expired}
use Rattle.file_names.specs.declared.Name.TheVariants.{Other}
use Rattle.file_names.specs.Spelling.{unreliable_text}
use Rattle.file_names.specs.Reading.{after, name_of}
use Rattle.container_view.specs.Folder.{RangeContent, RangeFile, LogFile, ManifestFile, Folder}
use Rattle.container_view.specs.Property.{property_of}

-- the grammars of contents, each by what the file's name says
pub record Grammars : Type 0 where
  pub range : (block : ℕ) → Bytes → Option RangeContent
  pub log : (begin end block : ℕ) → Bytes → Option (List Batch)
  pub manifest : Name → Bytes → Option (List Bytes)

-- the whole name of a container's file: the container, a slash, and the name in the container
abbrev pub whole_name : Bytes → Bytes → Bytes
whole_name container name = (container ++ 47 ∷ []) ++ name

-- the name in the container, where the file is in it
abbrev pub name_in : Bytes → Bytes → Option Bytes
name_in container name = after (container ++ 47 ∷ []) name

-- no slash in it, as in a container's name of one part
abbrev pub has_no_slash : Bytes → Bool
has_no_slash name = list_all (λ byte. not (byte == 47)) name

abbrev pub renamed : Option Bytes → Bytes → List File
renamed None bytes = []
renamed (Some name) bytes = record { name = name; bytes = bytes } ∷ []

-- the files of a container, with their names in it
abbrev pub inside : Bytes → List File → List File
inside container files = flat_map (λ file. renamed (name_in container file.name) file.bytes) files

abbrev pub range_file : Grammars → Bytes → Bytes → ℕ → ℕ → RangeFile
range_file g name bytes version block =
    record { name = name; version = version; block = block; content = g.range block bytes }

abbrev pub log_file : Grammars → Bytes → Bytes → ℕ → ℕ → ℕ → LogFile
log_file g name bytes begin end block =
    record {
      name = name;
      begin = begin;
      end = end;
      block = block;
      content = g.log begin end block bytes;
    }

abbrev pub manifest_file : Grammars → Bytes → Bytes → Name → ℕ → ℕ → ManifestFile
manifest_file g name bytes said begin end =
    record { name = name; begin = begin; end = end; content = g.manifest said bytes }

-- the file as one of each kind, by what its name says
abbrev pub as_range : Grammars → Bytes → Bytes → Name → List RangeFile
as_range g name bytes (Range snapshot version ticket block) =
    range_file g name bytes version block ∷ []
as_range g name bytes (Log begin end ticket block) = []
as_range g name bytes (Manifest begin end size ticket) = []
as_range g name bytes Unreliable = []
as_range g name bytes Expired = []
as_range g name bytes Other = []

abbrev pub as_log : Grammars → Bytes → Bytes → Name → List LogFile
as_log g name bytes (Log begin end ticket block) = log_file g name bytes begin end block ∷ []
as_log g name bytes (Range snapshot version ticket block) = []
as_log g name bytes (Manifest begin end size ticket) = []
as_log g name bytes Unreliable = []
as_log g name bytes Expired = []
as_log g name bytes Other = []

abbrev pub as_manifest : Grammars → Bytes → Bytes → Name → List ManifestFile
as_manifest g name bytes (Manifest begin end size ticket) =
    manifest_file g name bytes (Manifest begin end size ticket) begin end ∷ []
as_manifest g name bytes (Range snapshot version ticket block) = []
as_manifest g name bytes (Log begin end ticket block) = []
as_manifest g name bytes Unreliable = []
as_manifest g name bytes Expired = []
as_manifest g name bytes Other = []

abbrev pub range_files : Grammars → List File → List RangeFile
range_files g files = flat_map (λ file. as_range g file.name file.bytes (name_of file.name)) files

abbrev pub log_files : Grammars → List File → List LogFile
log_files g files = flat_map (λ file. as_log g file.name file.bytes (name_of file.name)) files

abbrev pub manifest_files : Grammars → List File → List ManifestFile
manifest_files g files =
    flat_map (λ file. as_manifest g file.name file.bytes (name_of file.name)) files

-- the number of a property file, 0 without the file
abbrev pub end_of : Option Bytes → Option ℕ
end_of None = Some 0
end_of (Some bytes) = property_of bytes

abbrev pub unreliable_of : List File → Option ℕ
unreliable_of files = end_of (file_of files unreliable_text)

-- the folder of files with their names in it, none where the unreliable end isn't in its grammar
abbrev pub folder_of : Grammars → List File → Option Folder
folder_of g files =
    unreliable_of files
    >>= λ end. Some
    (record {
      ranges = range_files g files;
      logs = log_files g files;
      manifests = manifest_files g files;
      unreliable = end;
    })

-- the folder of a container in a store
abbrev pub folder_in : Grammars → Bytes → List File → Option Folder
folder_in g container files = folder_of g (inside container files)
