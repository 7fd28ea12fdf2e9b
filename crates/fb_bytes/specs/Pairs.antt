-- Pairs of a key and a value, in the order of their keys.
use Rattle.std.specs.Prelude.{◌≡◌, true, List, [], ◌∷◌, Option, Some, None, if◌then◌else◌}
pub use Rattle.fb_bytes.specs.declared.pairs.Pair.{Pair}
use Rattle.fb_bytes.specs.Bytes.{Bytes, is_below, is_same}

-- the value of a key: that of the first pair with the key
abbrev pub value_of : List Pair → Bytes → Option Bytes
value_of [] key = None
value_of (pair ∷ pairs) key = if is_same pair.key key then Some pair.value else value_of pairs key

-- the next pair, if there is one, has a key past this one
abbrev pub KeyPast : Bytes → List Pair → Type 0
KeyPast key [] = Unit {0}
KeyPast key (pair ∷ pairs) = is_below key pair.key ≡ true

-- the keys rise, so no key comes twice
abbrev pub AreRising : List Pair → Type 0
AreRising [] = Unit {0}
AreRising (pair ∷ pairs) = KeyPast pair.key pairs × AreRising pairs
