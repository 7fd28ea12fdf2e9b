-- The elements that tuples hold.
use Rattle.std.specs.Prelude.{◌≡◌, ◌<◌, ◌^◌, true, List, [], ◌∷◌}
use Rattle.std.specs.Int.RustNames.{unsigned_abs}
use Rattle.std.specs.Str.{is_utf8}
use Rattle.fb_bytes.specs.Bytes.{IsBytes}
pub use Rattle.tuple_keys.specs.declared.element.Element.{Element}
use Rattle.tuple_keys.specs.declared.element.Element.TheVariants.{Null, Bytes, Text, Int}

-- an integer's magnitude has at most eight bytes
abbrev pub IsSmall : Element → Type 0
IsSmall Null = Unit {0}
IsSmall (Bytes bytes) = Unit {0}
IsSmall (Text text) = Unit {0}
IsSmall (Int n) = unsigned_abs n < 2 ^ 64

-- what every tuple keeps
abbrev pub AreSmall : List Element → Type 0
AreSmall [] = Unit {0}
AreSmall (e ∷ es) = IsSmall e × AreSmall es

-- an element that has a spelling: bytes of bytes, UTF-8 text, and integers of at most eight bytes
abbrev pub IsElement : Element → Type 0
IsElement Null = Unit {0}
IsElement (Bytes bytes) = IsBytes bytes
IsElement (Text text) = IsBytes text × (is_utf8 text ≡ true)
IsElement (Int n) = unsigned_abs n < 2 ^ 64

abbrev pub AreElements : List Element → Type 0
AreElements [] = Unit {0}
AreElements (e ∷ es) = IsElement e × AreElements es
