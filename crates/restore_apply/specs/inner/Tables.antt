-- The values of keys while batches are made on them.
use Rattle.std.specs.Prelude.{◌≡◌, List, [], ◌∷◌, Option}
use Rattle.std.specs.Ordering.{nat_cmp}
use Rattle.std.specs.Cmp.Lexicographic.{slice_cmp}
use Rattle.std.specs.BTreeMap.{BTreeMap, get}
use Rattle.fb_bytes.specs.Bytes.{Bytes}
use Rattle.fb_bytes.specs.declared.Pair.{Pair}

-- keys and their values, in the order of the keys
abbrev pub Table : Type 0
Table = BTreeMap Bytes Bytes

-- the value of a key
abbrev pub found : Table → Bytes → Option Bytes
found table key = get (slice_cmp nat_cmp) table key

-- what each key has is what a change leaves of the value that it had
abbrev pub Leaves : (Bytes → Option Bytes → Option Bytes) → Table → Table → Type 0
Leaves change old new = (key : Bytes) → found new key ≡ change key (found old key)

-- the pairs of entries
abbrev pub paired : List (Bytes × Bytes) → List Pair
paired [] = []
paired (entry ∷ entries) = record { key = entry.0; value = entry.1 } ∷ paired entries
