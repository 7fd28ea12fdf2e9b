-- The one spelling of a tuple.
use Rattle.std.specs.Prelude.{ℕ, ◌+◌, ◌-◌, Bool, true, false, List, [], ◌∷◌, ◌++◌, length, map}
use Rattle.std.specs.Prelude.{zero, suc, ℤ, pos, negsuc}
use Rattle.std.specs.List.{flat_map}
use Rattle.std.specs.Int.{w64, to_be_bytes}
use Rattle.std.specs.Int.RustNames.{unsigned_abs}
use Rattle.tuple_keys.specs.declared.element.Element.{Element}
use Rattle.tuple_keys.specs.declared.element.Element.TheVariants.{Null, Bytes, Text, Int}

-- each zero byte followed by ff
abbrev pub escaped : List ℕ → List ℕ
escaped [] = []
escaped (zero ∷ bytes) = 0 ∷ 255 ∷ escaped bytes
escaped (suc b ∷ bytes) = suc b ∷ escaped bytes

-- and a zero byte alone at the end
abbrev pub closed : List ℕ → List ℕ
closed bytes = escaped bytes ++ 0 ∷ []

abbrev pub without_zeros : List ℕ → List ℕ
without_zeros [] = []
without_zeros (zero ∷ bytes) = without_zeros bytes
without_zeros (suc b ∷ bytes) = suc b ∷ bytes

-- the big-endian bytes of a number, with no zero in front
unfoldable pub digits : ℕ → List ℕ
digits n = without_zeros (to_be_bytes w64 n)

abbrev pub complement : List ℕ → List ℕ
complement bytes = map (λ b. 255 - b) bytes

abbrev pub is_negative : ℤ → Bool
is_negative (pos n) = false
is_negative (negsuc n) = true

-- The first byte says the sign and how many bytes follow; 20 is zero. Those of a negative number
-- are the complements of its magnitude's.
abbrev pub number_spelling : Bool → ℕ → List ℕ
number_spelling false m = (20 + length (digits m)) ∷ digits m
number_spelling true m = (20 - length (digits m)) ∷ complement (digits m)

abbrev pub int_spelling : ℤ → List ℕ
int_spelling n = number_spelling (is_negative n) (unsigned_abs n)

abbrev pub element_spelling : Element → List ℕ
element_spelling Null = 0 ∷ []
element_spelling (Bytes bytes) = 1 ∷ closed bytes
element_spelling (Text text) = 2 ∷ closed text
element_spelling (Int n) = int_spelling n

-- the spellings of the elements, one behind the other
abbrev pub spelling : List Element → List ℕ
spelling elements = flat_map element_spelling elements
