-- What a version adds to keys, and what is left without it.
use Rattle.std.specs.Prelude.{ℕ, List, [], ◌∷◌}
use Rattle.std.specs.Prelude.{nat_eq, if◌then◌else◌}
use Rattle.fb_bytes.specs.Bytes.{Bytes}
use Rattle.versioned_kv.specs.Chains.{Row, Chain}

-- the rows of other versions
abbrev pub without_rows : ℕ → List Row → List Row
without_rows version [] = []
without_rows version (row ∷ rows) =
    if nat_eq row.version version then without_rows version rows
    else row ∷ without_rows version rows

-- a chain in front, unless it has no row
abbrev pub with_rows : Bytes → List Row → List Chain → List Chain
with_rows key [] rest = rest
with_rows key (row ∷ rows) rest = record { key = key; rows = row ∷ rows } ∷ rest

-- what other versions left
abbrev pub without : ℕ → List Chain → List Chain
without version [] = []
without version (chain ∷ chains) =
    with_rows chain.key (without_rows version chain.rows) (without version chains)
