-- What single writes and clears do to keys and rows.
use Rattle.std.specs.Prelude.{◌≡◌, ℕ, zero, suc, ◌≤◌, List, [], ◌∷◌, ◌++◌, Bool, false, Option}
use Rattle.std.specs.Prelude.{Some, None, nat_eq, is_some, if◌then◌else◌}
use Rattle.std.specs.List.{AllByRecursion}
use Rattle.fb_bytes.specs.Bytes.{Bytes, is_below, is_same}
use Rattle.fb_bytes.specs.declared.KeyRange.{KeyRange}
use Rattle.fb_bytes.specs.Keys.{holds}
use Rattle.versioned_kv.specs.Chains.{Row, Chain, value_in}
use Rattle.versioned_kv.specs.inner.Chains.{AreChains}
use Rattle.versioned_kv.specs.Edits.{with_rows, without, without_rows}

-- the rows once this one is the last, in place of another of its version
abbrev pub put_row : Row → List Row → List Row
put_row row rows = without_rows row.version rows ++ row ∷ []

-- the chains once a row was put at a key
abbrev pub put_at : Bytes → Row → List Chain → List Chain
put_at key row [] = record { key = key; rows = row ∷ [] } ∷ []
put_at key row (chain ∷ chains) =
    if is_below chain.key key then chain ∷ put_at key row chains
    else if is_same chain.key key
    then record { key = chain.key; rows = put_row row chain.rows } ∷ chains
    else record { key = key; rows = row ∷ [] } ∷ chain ∷ chains

-- the chains once the rows of a key are changed, which goes with its last row
abbrev pub changed_at : (List Row → List Row) → Bytes → List Chain → List Chain
changed_at change key [] = []
changed_at change key (chain ∷ chains) =
    if is_same chain.key key then with_rows chain.key (change chain.rows) chains
    else chain ∷ changed_at change key chains

-- the row, if there is one, is of the version
abbrev pub is_row_of : ℕ → Option Row → Bool
is_row_of version None = false
is_row_of version (Some row) = nat_eq row.version version

-- the chain, if there is one, is that of the key
abbrev pub is_chain_of : Bytes → Option Chain → Bool
is_chain_of key None = false
is_chain_of key (Some chain) = is_same chain.key key

-- no row is past the version
abbrev pub AreRowsUpto : ℕ → List Row → Type 0
AreRowsUpto version rows = AllByRecursion (λ row. row.version ≤ version) rows

abbrev pub AreUpto : ℕ → List Chain → Type 0
AreUpto version chains = AllByRecursion (λ chain. AreRowsUpto version chain.rows) chains

-- The newest chains differ from older ones by rows of one version alone.
pub record Extends (version : ℕ) (old new : List Chain) : Type 0 where
  pub chains : AreChains new
  pub upto : AreUpto version new
  pub same : without version new ≡ without version old

-- a chain once its key is taken away, where it had a value
abbrev pub clear_chain : ℕ → Chain → Chain
clear_chain version chain =
    if is_some (value_in chain.rows version None)
    then record {
      key = chain.key;
      rows = put_row (record { version = version; value = None }) chain.rows;
    } else chain

-- the chains once those of the range that are among the first so many are cleared
abbrev pub cleared_upto : ℕ → KeyRange → ℕ → List Chain → List Chain
cleared_upto zero range version chains = chains
cleared_upto (suc place) range version [] = []
cleared_upto (suc place) range version (chain ∷ chains) =
    (if holds range chain.key then clear_chain version chain else chain) ∷ cleared_upto place range
    version chains

-- the chains once all those of the range are cleared
abbrev pub all_cleared : KeyRange → ℕ → List Chain → List Chain
all_cleared range version [] = []
all_cleared range version (chain ∷ chains) =
    (if holds range chain.key then clear_chain version chain else chain) ∷ all_cleared range version
    chains

-- some of the first chains are as they are once those of the range are cleared, and the others as
-- they were
pub record IsClearedUpto (range : KeyRange) (version : ℕ) (old new : List Chain) : Type 0 where
  pub place : ℕ
  pub cleared : new ≡ cleared_upto place range version old
