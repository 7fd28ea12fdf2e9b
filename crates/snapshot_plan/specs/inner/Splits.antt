-- Pairs in order, split at a key.
use Rattle.std.specs.Prelude.{List, [], ◌∷◌, if◌then◌else◌}
use Rattle.fb_bytes.specs.Bytes.{Bytes, is_below}
use Rattle.fb_bytes.specs.declared.Pair.{Pair}

-- the pairs at the front with keys below the key
abbrev pub until_key : Bytes → List Pair → List Pair
until_key key [] = []
until_key key (pair ∷ pairs) =
    if is_below pair.key key then pair ∷ until_key key pairs else []

-- all behind them
abbrev pub from_key : Bytes → List Pair → List Pair
from_key key [] = []
from_key key (pair ∷ pairs) =
    if is_below pair.key key then from_key key pairs else pair ∷ pairs
