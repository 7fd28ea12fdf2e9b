-- The containers of a store, by the names of its files.
use Rattle.std.specs.Prelude.{Bool, List, is_some}
use Rattle.std.specs.List.{list_any}
use Rattle.std.specs.List.Sorted.{IsStrictlySortedBy}
use Rattle.std.specs.Ordering.{nat_cmp}
use Rattle.std.specs.Cmp.Lexicographic.{slice_cmp}
use Rattle.fb_bytes.specs.Bytes.{Bytes}
use Rattle.fb_outside.specs.declared.File.{File}
use Rattle.container_view.specs.Files.{name_in}

-- some file's name is the container's, a slash, and what stands behind it
abbrev pub has_file : Bytes → List File → Bool
has_file container files = list_any (λ file. is_some (name_in container file.name)) files

-- the names rise in byte order, so none comes twice
abbrev pub AreRising : List Bytes → Type 0
AreRising names = IsStrictlySortedBy (slice_cmp nat_cmp) names
