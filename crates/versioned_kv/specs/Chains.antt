-- Keys and their versions: each key has a chain of rows, one for each version that changed it.
use Rattle.std.specs.Prelude.{ℕ, zero, suc, Bool, List, [], ◌∷◌, Option}
use Rattle.std.specs.Prelude.{None, nat_le, if◌then◌else◌}
use Rattle.fb_bytes.specs.Bytes.{Bytes, is_same}
pub use Rattle.versioned_kv.specs.declared.chain.Row.{Row}
pub use Rattle.versioned_kv.specs.declared.chain.Chain.{Chain}

-- what the last row at or below a version left, or what was there before the rows
abbrev pub value_in : List Row → ℕ → Option Bytes → Option Bytes
value_in [] version before = before
value_in (row ∷ rows) version before =
    value_in rows version (if nat_le row.version version then row.value else before)

-- the rows of a key
abbrev pub rows_of : List Chain → Bytes → List Row
rows_of [] key = []
rows_of (chain ∷ chains) key = if is_same chain.key key then chain.rows else rows_of chains key

-- the value of a key at a version
abbrev pub value_at : List Chain → Bytes → ℕ → Option Bytes
value_at chains key version = value_in (rows_of chains key) version None

-- how many entries at the front pass a test
abbrev pub front_len : {A : Type 0} → (A → Bool) → List A → ℕ
front_len test [] = zero
front_len test (x ∷ xs) = if test x then suc (front_len test xs) else zero

-- how many rows are at or below a version
abbrev pub is_row_upto : ℕ → Row → Bool
is_row_upto version row = nat_le row.version version

abbrev pub rows_upto : ℕ → List Row → ℕ
rows_upto version rows = front_len (is_row_upto version) rows
