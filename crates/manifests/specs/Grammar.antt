-- The text of a manifest, over what serde_json reads.
use Rattle.std.specs.Prelude.{◌≡◌, ℕ, List, [], ◌∷◌, Some, None, codes}
use Rattle.std.specs.Str.{IsUtf8}
use Rattle.serde_json.specs.Data.{Data, number, unsigned, string, array, object, Items, item}
use Rattle.serde_json.specs.Data.{no_items, member, no_members}
use Rattle.serde_json.specs.Read.{read}
use Rattle.serde_json.specs.Find.{get}
use Rattle.serde_json.specs.Written.{compact_text}
use Rattle.fb_bytes.specs.Bytes.{Bytes}
use Rattle.file_names.specs.declared.Name.{Name}
use Rattle.file_names.specs.declared.Name.TheVariants as names
use Rattle.manifests.specs.declared.manifest.Manifest.{Manifest}
use Rattle.manifests.specs.Files.{AreRangeNames, span_of}

abbrev pub natural : ℕ → Data
natural n = number (unsigned n)

abbrev pub texts : List Bytes → Items
texts [] = no_items
texts (text ∷ rest) = item (string text) (texts rest)

-- what a manifest's files have to be: range names in strictly rising order, of which begin and end
-- are the least and the greatest version
pub record IsWhole (manifest : Manifest) : Type 0 where
  pub files : AreRangeNames None manifest.files
  pub versions : span_of manifest.files ≡ Some (manifest.begin, manifest.end)

-- the name of a manifest with a ticket
abbrev pub name_for : Manifest → ℕ → Name
name_for manifest ticket = names.Manifest manifest.begin manifest.end manifest.bytes ticket

-- the text is JSON with the five fields, and they agree with each other and with the name
pub record ManifestText (name : Name) (text : Bytes) (manifest : Manifest) : Type 0 where
  pub utf8 : IsUtf8 text
  pub value : Data
  pub json : read text ≡ Some value
  pub begin_version : get (codes "beginVersion") value ≡ Some (natural manifest.begin)
  pub end_version : get (codes "endVersion") value ≡ Some (natural manifest.end)
  pub file_texts : get (codes "files") value ≡ Some (array (texts manifest.files))
  pub format : get (codes "format") value ≡ Some (natural 1)
  pub total_bytes : get (codes "totalBytes") value ≡ Some (natural manifest.bytes)
  pub whole : IsWhole manifest
  pub ticket : ℕ
  pub named : name ≡ name_for manifest ticket

-- the object that a writer writes, its members in the order of their keys
abbrev pub written : Manifest → Data
written manifest =
    object (member (codes "beginVersion") (natural manifest.begin)
    (member (codes "endVersion") (natural manifest.end)
    (member (codes "files") (array (texts manifest.files)) (member (codes "format") (natural 1)
    (member (codes "totalBytes") (natural manifest.bytes) no_members)))))

-- its compact text
abbrev pub manifest_text : Manifest → Bytes
manifest_text manifest = compact_text (written manifest)
