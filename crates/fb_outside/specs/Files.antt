-- The files of a store, as a list in byte order of the names.
use Rattle.std.specs.Prelude.{◌≡◌, Bool, true, not, nat_eq, List, [], ◌∷◌, ◌++◌, map, Option, Some}
use Rattle.std.specs.Prelude.{None, if◌then◌else◌}
use Rattle.std.specs.List.{filter, starts_with}
use Rattle.fb_bytes.specs.Bytes.{Bytes, is_below, is_same}
pub use Rattle.fb_outside.specs.declared.files.File.{File}

-- the next file, if there is one, has a name past this one
abbrev pub NamePast : Bytes → List File → Type 0
NamePast name [] = Unit {0}
NamePast name (file ∷ files) = is_below name file.name ≡ true

-- the names rise, so no name comes twice
abbrev pub AreFiles : List File → Type 0
AreFiles [] = Unit {0}
AreFiles (file ∷ files) = NamePast file.name files × AreFiles files

-- the bytes of the file of that name
abbrev pub file_of : List File → Bytes → Option Bytes
file_of [] name = None
file_of (file ∷ files) name = if is_same file.name name then Some file.bytes else file_of files name

-- the files with these bytes under that name, in place of what it had
abbrev pub with_file : List File → Bytes → Bytes → List File
with_file [] name bytes = record { name = name; bytes = bytes } ∷ []
with_file (file ∷ files) name bytes =
    if is_below name file.name then record { name = name; bytes = bytes } ∷ file ∷ files
    else if is_same file.name name then record { name = name; bytes = bytes } ∷ files
    else file ∷ with_file files name bytes

-- the files without that name
abbrev pub without_file : List File → Bytes → List File
without_file files name = filter (λ file. not (is_same file.name name)) files

-- the name begins with the folder and a slash; under the empty folder stands every name
abbrev pub is_under : Bytes → Bytes → Bool
is_under [] name = true
is_under (byte ∷ folder) name = starts_with nat_eq name ((byte ∷ folder) ++ 47 ∷ [])

-- the names under a folder, in the order of the files
abbrev pub names_in : Bytes → List File → List Bytes
names_in folder files = map (λ file. file.name) (filter (λ file. is_under folder file.name) files)
