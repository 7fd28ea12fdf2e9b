-- What holds of manifests.
use Rattle.std.specs.Prelude.{◌≡◌, ℕ, ◌<◌, ◌^◌, Some}
use Rattle.fb_bytes.specs.Bytes.{Bytes}
use Rattle.file_names.specs.declared.Name.{Name}
use Rattle.manifests.specs.declared.manifest.Manifest.{Manifest}
use Rattle.manifests.specs.Grammar.{IsWhole, ManifestText, name_for, manifest_text}
use Rattle.manifests.specs.Reading.{manifest_of}

-- What is read from a text is in the grammar of its name.
abbrev pub ReadIsManifest : Type 0
ReadIsManifest =
    (name : Name) (bytes : Bytes) (manifest : Manifest) → manifest_of name bytes ≡ Some manifest
    → ManifestText name bytes manifest

-- What is in the grammar is read.
abbrev pub ManifestIsRead : Type 0
ManifestIsRead =
    (name : Name) (bytes : Bytes) (manifest : Manifest) → ManifestText name bytes manifest
    → manifest_of name bytes ≡ Some manifest

-- The text that is written of a manifest is in the grammar of each of its names, where its bytes
-- fit 64 bits.
abbrev pub WrittenIsManifest : Type 0
WrittenIsManifest =
    (manifest : Manifest) (ticket : ℕ) → IsWhole manifest → manifest.bytes < 2 ^ 64
    → ManifestText (name_for manifest ticket) (manifest_text manifest) manifest
