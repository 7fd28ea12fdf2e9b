-- What the manifest of noted files says of them.
use Rattle.std.specs.Prelude.{◌≡◌, ℕ, ◌≤◌, true, false, Some, List, [], ◌∷◌, map}
use Rattle.std.specs.List.{AllByRecursion}
use Rattle.fb_bytes.specs.Bytes.{Bytes, is_below, is_same}
use Rattle.fb_bytes.specs.Options.{IsIn}
use Rattle.manifests.specs.declared.Manifest.{Manifest}
use Rattle.manifests.specs.Files.{version_of}
use Rattle.manifests.specs.Grammar.{IsWhole}
use Rattle.snapshot_plan.specs.Noted.{Noted}

-- the names of the noted files
abbrev pub noted_names : List Noted → List Bytes
noted_names noted = map (λ n. n.file.name) noted

-- the version of a noted file, and no noted file has a lesser one
pub record IsLeastVersion (noted : List Noted) (version : ℕ) : Type 0 where
  pub one : (n : Noted) × IsIn n noted × (n.file.version ≡ version)
  pub least : (n : Noted) → IsIn n noted → version ≤ n.file.version

-- the version of a noted file, and no noted file has a greater one
pub record IsGreatestVersion (noted : List Noted) (version : ℕ) : Type 0 where
  pub one : (n : Noted) × IsIn n noted × (n.file.version ≡ version)
  pub greatest : (n : Noted) → IsIn n noted → n.file.version ≤ version

-- the next name, if there is one, isn't below this one
abbrev pub NameFrom : Bytes → List Bytes → Type 0
NameFrom name [] = Unit {0}
NameFrom name (next ∷ names) = is_below next name ≡ false

-- in byte order: no name is below the one before it
abbrev pub AreOrdered : List Bytes → Type 0
AreOrdered [] = Unit {0}
AreOrdered (name ∷ names) = NameFrom name names × AreOrdered names

-- the next name, if there is one, is past this one
abbrev pub NamePast : Bytes → List Bytes → Type 0
NamePast name [] = Unit {0}
NamePast name (next ∷ names) = is_below name next ≡ true

-- each name is past the one before it
abbrev pub AreRising : List Bytes → Type 0
AreRising [] = Unit {0}
AreRising (name ∷ names) = NamePast name names × AreRising names

-- the name isn't among these
abbrev pub IsNew : Bytes → List Bytes → Type 0
IsNew name names = AllByRecursion (λ other. is_same name other ≡ false) names

-- no name comes twice
abbrev pub AreDistinct : List Bytes → Type 0
AreDistinct [] = Unit {0}
AreDistinct (name ∷ names) = IsNew name names × AreDistinct names

-- each noted file has a range name of its version
abbrev pub HaveRangeNames : List Noted → Type 0
HaveRangeNames noted = AllByRecursion (λ n. version_of n.file.name ≡ Some n.file.version) noted

-- the manifest can be written, and has a name where its bytes fit one
pub record IsWritable (manifest : Manifest) : Type 0 where
  pub whole : IsWhole manifest
  pub ordered : manifest.begin ≤ manifest.end
