-- The pieces of a snapshot that are done, each with its file.
use Rattle.std.specs.Prelude.{ℕ, ◌+◌, Bool, false, List, [], ◌∷◌, map, Option, Some, None, min, max}
use Rattle.std.specs.Prelude.{if◌then◌else◌}
use Rattle.fb_bytes.specs.Bytes.{Bytes, is_below, is_same}
use Rattle.fb_bytes.specs.declared.KeyRange.{KeyRange}
use Rattle.fb_bytes.specs.Keys.{is_backwards}
use Rattle.manifests.specs.declared.Manifest.{Manifest}
pub use Rattle.snapshot_plan.specs.declared.file_map.Done.{Done}
pub use Rattle.snapshot_plan.specs.declared.file_map.Noted.{Noted}
use Rattle.snapshot_plan.specs.declared.fault.MapFault.{MapFault}
use Rattle.snapshot_plan.specs.declared.fault.MapFault.TheVariants.{OutsideRanges, Overlap}
use Rattle.snapshot_plan.specs.Pieces.{outside, overlap, gap_in}

-- what contracts see of a map: a job's ranges, and what is done in them, in key order
pub record Map : Type 0 where
  pub ranges : List KeyRange
  pub noted : List Noted

-- the pieces that are noted
abbrev pub pieces_of : List Noted → List KeyRange
pieces_of noted = map (λ n. n.piece) noted

-- one more in a list, behind all those at its front that come before it
abbrev pub placed : {X : Type 0} → (X → Bool) → X → List X → List X
placed is_before x [] = x ∷ []
placed is_before x (y ∷ ys) = if is_before y then y ∷ placed is_before x ys else x ∷ y ∷ ys

-- one more, where its piece belongs
abbrev pub with_noted : Noted → List Noted → List Noted
with_noted one noted = placed (λ n. is_below n.piece.begin one.piece.begin) one noted

-- one more, unless its piece has no key: of such a piece nothing is to be noted
abbrev pub with_done : Noted → List Noted → List Noted
with_done one noted = if is_backwards one.piece then noted else with_noted one noted

-- there is a noted piece, and it begins at the key
abbrev pub begins_at : Bytes → Option Noted → Bool
begins_at key None = false
begins_at key (Some n) = is_same n.piece.begin key

-- all but the first that begins at the key
abbrev pub without : Bytes → List Noted → List Noted
without key [] = []
without key (n ∷ ns) = if begins_at key (Some n) then ns else n ∷ without key ns

-- why a piece can't be noted: a key outside the ranges, or one that a noted piece holds
abbrev pub unless_inside : Option Bytes → Option Bytes → Option MapFault
unless_inside (Some key) held = Some (OutsideRanges key)
unless_inside None (Some key) = Some (Overlap key)
unless_inside None None = None

-- the first reason why a piece can't be noted, if there is one
abbrev pub fault_of : Map → KeyRange → Option MapFault
fault_of m piece = unless_inside (outside m.ranges piece) (overlap (pieces_of m.noted) piece)

-- the least key of the ranges that no noted piece holds
abbrev pub gap : Map → Option Bytes
gap m = gap_in m.ranges (pieces_of m.noted)

-- ---- the manifest

-- a name where it belongs in byte order
abbrev pub with_name : Bytes → List Bytes → List Bytes
with_name name names = placed (λ n. is_below n name) name names

-- the files' names, in byte order
abbrev pub names_of : List Bytes → List Noted → List Bytes
names_of names [] = names
names_of names (n ∷ ns) = names_of (with_name n.file.name names) ns

-- the least of a version and those of the files
abbrev pub least_of : ℕ → List Noted → ℕ
least_of least [] = least
least_of least (n ∷ ns) = least_of (min least n.file.version) ns

-- the greatest of a version and those of the files
abbrev pub greatest_of : ℕ → List Noted → ℕ
greatest_of greatest [] = greatest
greatest_of greatest (n ∷ ns) = greatest_of (max greatest n.file.version) ns

-- the greatest number in a name
abbrev pub most_bytes : ℕ
most_bytes = 9223372036854775807

-- a number of bytes, and those of the files
abbrev pub bytes_of : ℕ → List Noted → ℕ
bytes_of bytes [] = bytes
bytes_of bytes (n ∷ ns) = bytes_of (bytes + n.file.bytes) ns

-- the manifest that lists the files
abbrev pub manifest_of : List Noted → Manifest
manifest_of [] = record { begin = 0; end = 0; files = []; bytes = 0 }
manifest_of (n ∷ ns) = record {
  begin = least_of n.file.version ns;
  end = greatest_of n.file.version ns;
  files = names_of [] (n ∷ ns);
  bytes = bytes_of 0 (n ∷ ns);
}
