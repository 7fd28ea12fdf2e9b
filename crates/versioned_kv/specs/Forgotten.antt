-- What is left of the rows once older versions are forgotten.
use Rattle.std.specs.Prelude.{ℕ, ◌-◌, List, [], ◌∷◌, None, drop, is_some, if◌then◌else◌}
use Rattle.versioned_kv.specs.Chains.{Row, Chain, rows_upto, value_in}
use Rattle.versioned_kv.specs.Edits.{with_rows}

-- how many rows fall: those up to the oldest version, but for the last one of them where it has a
-- value
abbrev pub rows_fallen : ℕ → List Row → ℕ
rows_fallen oldest rows =
    if is_some (value_in rows oldest None) then rows_upto oldest rows - 1
    else rows_upto oldest rows

-- the others
abbrev pub forgotten : ℕ → List Row → List Row
forgotten oldest rows = drop (rows_fallen oldest rows) rows

-- the same for each key, which goes with its last row
abbrev pub all_forgotten : ℕ → List Chain → List Chain
all_forgotten oldest [] = []
all_forgotten oldest (chain ∷ chains) =
    with_rows chain.key (forgotten oldest chain.rows) (all_forgotten oldest chains)
