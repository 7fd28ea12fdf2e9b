-- Reading a manifest, with the first fault that is met.
use Rattle.std.specs.Prelude.{ℕ, ◌+◌, Bool, false, List, [], ◌∷◌, Option, Some, None}
use Rattle.std.specs.Prelude.{option_and_then, Result, Ok, Err, ◌&&◌, ◌==◌, if◌then◌else◌, codes}
use Rattle.std.specs.Str.{is_utf8}
use Rattle.serde_json.specs.Data.{Data, Items, item, no_items}
use Rattle.serde_json.specs.Read as json
use Rattle.serde_json.specs.Find.{get, as_number, as_u64, as_array, as_str}
use Rattle.fb_bytes.specs.Bytes.{Bytes}
pub use Rattle.fb_bytes.specs.Results.{◌>>=◌, found_or, ok_side}
use Rattle.fb_bytes.specs.Results.{FailsBut}
use Rattle.file_names.specs.declared.Name.{Name}
use Rattle.file_names.specs.declared.Name.TheVariants as names
use Rattle.manifests.specs.declared.manifest.Manifest.{Manifest}
use Rattle.manifests.specs.declared.fault.Field.TheVariants.{BeginVersion, EndVersion, Files}
use Rattle.manifests.specs.declared.fault.Field.TheVariants.{Format, TotalBytes}
use Rattle.manifests.specs.declared.fault.ManifestFault.{ManifestFault}
use Rattle.manifests.specs.declared.fault.ManifestFault.TheVariants.{Json, Field, Order, Versions}
use Rattle.manifests.specs.declared.fault.ManifestFault.TheVariants.{NoMemory}
use Rattle.manifests.specs.Files.{fits, span_of}

-- a failed call answers want of memory, or the fault that the reading meets
abbrev pub Fails : {A : Type 0} → ManifestFault → Result A ManifestFault → Type 0
Fails fault reading = FailsBut NoMemory fault reading

-- a field that is a number of 64 bits
unfoldable pub number_in : Bytes → Data → Option ℕ
number_in key value = option_and_then as_u64 (option_and_then as_number (get key value))

abbrev pub with_text : Option Bytes → Option (List Bytes) → Option (List Bytes)
with_text None more = None
with_text (Some text) None = None
with_text (Some text) (Some more) = Some (text ∷ more)

-- the texts of an array, where each item is one
abbrev pub texts_of : Items → Option (List Bytes)
texts_of no_items = Some []
texts_of (item value items) = with_text (as_str value) (texts_of items)

-- a field that is an array of texts
unfoldable pub texts_in : Bytes → Data → Option (List Bytes)
texts_in key value = option_and_then texts_of (option_and_then as_array (get key value))

-- the number of a format, which has to be 1
abbrev pub format_or : Option ℕ → Result ℕ ManifestFault
format_or None = Err (Field Format)
format_or (Some n) = if n == 1 then Ok n else Err (Field Format)

-- the fields in the order of their names
unfoldable pub fields_of : Data → Result Manifest ManifestFault
fields_of value = do
  begin ← found_or (Field BeginVersion) (number_in (codes "beginVersion") value)
  end ← found_or (Field EndVersion) (number_in (codes "endVersion") value)
  files ← found_or (Field Files) (texts_in (codes "files") value)
  format ← format_or (number_in (codes "format") value)
  bytes ← found_or (Field TotalBytes) (number_in (codes "totalBytes") value)
  Ok (record { begin = begin; end = end; files = files; bytes = bytes })

-- the first place with a file that isn't a range name or isn't past the one before
abbrev pub misplaced : Option Bytes → ℕ → List Bytes → Option ℕ
misplaced last at [] = None
misplaced last at (file ∷ files) =
    if fits last file then misplaced (Some file) (at + 1) files else Some at

abbrev pub spans : Option (ℕ × ℕ) → Manifest → Bool
spans None manifest = false
spans (Some span) manifest = span.0 == manifest.begin && span.1 == manifest.end

-- the manifest agrees with its name and its files
abbrev pub agrees : Name → Manifest → Bool
agrees (names.Manifest begin end bytes ticket) manifest =
    begin == manifest.begin && end == manifest.end && bytes == manifest.bytes
    && spans (span_of manifest.files) manifest
agrees (names.Range snapshot version ticket block) manifest = false
agrees (names.Log begin end ticket block) manifest = false
agrees names.Unreliable manifest = false
agrees names.Expired manifest = false
agrees names.Other manifest = false

abbrev pub checked_at : Option ℕ → Name → Manifest → Result Manifest ManifestFault
checked_at (Some at) name manifest = Err (Order at)
checked_at None name manifest = if agrees name manifest then Ok manifest else Err Versions

unfoldable pub checked : Name → Manifest → Result Manifest ManifestFault
checked name manifest = checked_at (misplaced None 0 manifest.files) name manifest

-- the value of a text, if it is one
unfoldable pub value_of : Bytes → Option Data
value_of bytes = if is_utf8 bytes then json.read bytes else None

-- what a reader answers: the manifest, or the first fault
unfoldable pub manifest_read : Name → Bytes → Result Manifest ManifestFault
manifest_read name bytes = do
  value ← found_or Json (value_of bytes)
  manifest ← fields_of value
  checked name manifest

-- the manifest of a name, if the bytes are one
abbrev pub manifest_of : Name → Bytes → Option Manifest
manifest_of name bytes = ok_side (manifest_read name bytes)
