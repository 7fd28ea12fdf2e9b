-- The files that a manifest lists.
use Rattle.std.specs.Prelude.{◌≡◌, ℕ, Bool, true, List, [], ◌∷◌, Option, Some, None, is_some, min}
use Rattle.std.specs.Prelude.{max, ◌&&◌}
use Rattle.fb_bytes.specs.Bytes.{Bytes, is_below}
use Rattle.file_names.specs.declared.Name.{Name}
use Rattle.file_names.specs.declared.Name.TheVariants.{Range, Log, Manifest, Unreliable, Expired}
use Rattle.file_names.specs.declared.Name.TheVariants.{Other}
use Rattle.file_names.specs.Reading.{name_of}

abbrev pub version_in : Name → Option ℕ
version_in (Range snapshot version ticket block) = Some version
version_in (Log begin end ticket block) = None
version_in (Manifest begin end bytes ticket) = None
version_in Unreliable = None
version_in Expired = None
version_in Other = None

-- the version of a range file
abbrev pub version_of : Bytes → Option ℕ
version_of file = version_in (name_of file)

abbrev pub is_past : Option Bytes → Bytes → Bool
is_past None file = true
is_past (Some last) file = is_below last file

-- a range name, and past the one before it
abbrev pub fits : Option Bytes → Bytes → Bool
fits last file = is_some (version_of file) && is_past last file

-- names of range files in strictly rising byte order
abbrev pub AreRangeNames : Option Bytes → List Bytes → Type 0
AreRangeNames last [] = Unit {0}
AreRangeNames last (file ∷ files) = (fits last file ≡ true) × AreRangeNames (Some file) files

-- the least and the greatest of two spans of versions
abbrev pub widest : Option (ℕ × ℕ) → Option (ℕ × ℕ) → Option (ℕ × ℕ)
widest None other = other
widest (Some span) None = Some span
widest (Some span) (Some other) = Some (min span.0 other.0, max span.1 other.1)

abbrev pub alone : Option ℕ → Option (ℕ × ℕ)
alone None = None
alone (Some version) = Some (version, version)

-- the least and the greatest version of the files
abbrev pub span_of : List Bytes → Option (ℕ × ℕ)
span_of [] = None
span_of (file ∷ files) = widest (alone (version_of file)) (span_of files)
