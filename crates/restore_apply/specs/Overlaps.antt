-- Ranges that overlap, in the order of their begin keys.
use Rattle.std.specs.Prelude.{ℕ, ◌+◌, Bool, true, false, not, ◌&&◌, ◌||◌, List, [], ◌∷◌}
use Rattle.std.specs.Prelude.{Option, Some, None, if◌then◌else◌}
use Rattle.fb_bytes.specs.Bytes.{is_below}
use Rattle.fb_bytes.specs.declared.KeyRange.{KeyRange}
use Rattle.fb_bytes.specs.Keys.{overlaps}
use Rattle.restore_apply.specs.Loaded.{LoadedFile, range_of}
pub use Rattle.restore_apply.specs.declared.overlaps.At.{At}

abbrev pub overlaps_some : KeyRange → List At → Bool
overlaps_some range [] = false
overlaps_some range (x ∷ xs) = overlaps range x.range || overlaps_some range xs

-- each file's range with its place, counted on from a number
abbrev pub numbered : ℕ → List LoadedFile → List At
numbered n [] = []
numbered n (file ∷ files) = record { place = n; range = range_of file } ∷ numbered (n + 1) files

-- put in front of the first that doesn't begin before it
abbrev pub placed : At → List At → List At
placed x [] = x ∷ []
placed x (y ∷ ys) = if is_below y.range.begin x.range.begin then y ∷ placed x ys else x ∷ y ∷ ys

-- in the order of the begin keys, equal ones as they stand
abbrev pub in_order : List At → List At
in_order [] = []
in_order (x ∷ xs) = placed x (in_order xs)

-- the first that overlaps one before it
abbrev pub overlapping : List At → List At → Option At
overlapping before [] = None
overlapping before (x ∷ xs) =
    if overlaps_some x.range before then Some x else overlapping (x ∷ before) xs

-- in the order of the begin keys, the first file whose range overlaps that of one before it
abbrev pub first_overlap : List LoadedFile → Option At
first_overlap files = overlapping [] (in_order (numbered 0 files))

-- no two overlap
abbrev pub overlaps_file : KeyRange → List LoadedFile → Bool
overlaps_file range [] = false
overlaps_file range (file ∷ files) = overlaps range (range_of file) || overlaps_file range files

abbrev pub are_apart : List LoadedFile → Bool
are_apart [] = true
are_apart (file ∷ files) = not (overlaps_file (range_of file) files) && are_apart files
