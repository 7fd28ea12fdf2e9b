-- The pairs of files whose ranges stand in order, one file after the other.
use Rattle.std.specs.Prelude.{List, [], ◌∷◌, ◌++◌, Option, Some, None, if◌then◌else◌}
use Rattle.std.specs.List.{slice_get, AllByRecursion}
use Rattle.fb_bytes.specs.declared.KeyRange.{KeyRange}
use Rattle.fb_bytes.specs.declared.Pair.{Pair}
use Rattle.fb_bytes.specs.Keys.{holds}
use Rattle.fb_bytes.specs.Pairs.{AreRising}
use Rattle.restore_apply.specs.Loaded.{LoadedFile}
use Rattle.restore_apply.specs.declared.overlaps.At.{At}

-- the pairs whose keys the range holds
abbrev pub kept : KeyRange → List Pair → List Pair
kept range [] = []
kept range (pair ∷ pairs) =
    if holds range pair.key then pair ∷ kept range pairs else kept range pairs

-- the pairs of a file, if there is one, whose keys the range holds
abbrev pub kept_of : KeyRange → Option LoadedFile → List Pair
kept_of range None = []
kept_of range (Some file) = kept range file.body.pairs

-- the keys of a file, if there is one, rise
abbrev pub IsRising : Option LoadedFile → Type 0
IsRising None = Unit {0}
IsRising (Some file) = AreRising file.body.pairs

-- the keys of each file at a place rise
abbrev pub EachIsRising : List LoadedFile → List At → Type 0
EachIsRising files order = AllByRecursion (λ at. IsRising (slice_get files at.place)) order

-- the pairs of files at places
abbrev pub stored : List LoadedFile → List At → List Pair
stored files [] = []
stored files (at ∷ order) = kept_of at.range (slice_get files at.place) ++ stored files order
