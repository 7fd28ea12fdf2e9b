-- The order of tuples, apart from their spelling.
use Rattle.std.specs.Prelude.{◌≡◌, ℕ, List}
use Rattle.std.specs.declared.cmp.Ordering.{Ordering}
use Rattle.std.specs.Ordering.{nat_cmp, int_cmp}
use Rattle.std.specs.Cmp.Lexicographic.{slice_cmp}
use Rattle.tuple_keys.specs.declared.element.Element.{Element}
use Rattle.tuple_keys.specs.declared.element.Element.TheVariants.{Null, Bytes, Text, Int}
use Rattle.tuple_keys.specs.Elements.{AreElements}
use Rattle.tuple_keys.specs.Spelling.{spelling}

-- null, bytes, text, integers
abbrev pub rank : Element → ℕ
rank Null = 0
rank (Bytes bytes) = 1
rank (Text text) = 2
rank (Int n) = 3

-- Of two elements of one type: bytes and text by byte order, where an end comes first, and integers
-- by value.
abbrev pub compare_elements : Element → Element → Ordering
compare_elements (Bytes a) (Bytes b) = slice_cmp nat_cmp a b
compare_elements (Text a) (Text b) = slice_cmp nat_cmp a b
compare_elements (Int a) (Int b) = int_cmp a b
compare_elements a b = nat_cmp (rank a) (rank b)

-- the first elements that differ decide, and else the shorter tuple comes first
abbrev pub compare_tuples : List Element → List Element → Ordering
compare_tuples = slice_cmp compare_elements

-- The byte order of spellings is the order of the tuples.
abbrev pub OrderLaw : Type 0
OrderLaw = (s t : List Element) → AreElements s → AreElements t
    → slice_cmp nat_cmp (spelling s) (spelling t) ≡ compare_tuples s t
