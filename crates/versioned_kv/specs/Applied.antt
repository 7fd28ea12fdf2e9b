-- What was applied to a store, and what a store shows of it.
use Rattle.std.specs.Prelude.{◌≡◌, ℕ, ◌+◌, ◌<◌, ◌≤◌, List, [], ◌∷◌, ◌++◌, map, Option, None}
use Rattle.std.specs.List.{AllByRecursion}
use Rattle.fb_bytes.specs.Bytes.{Bytes}
use Rattle.mutations.specs.declared.batch.Batch.{Batch}
use Rattle.mutations.specs.declared.mutation.Mutation.{Mutation}
use Rattle.mutations.specs.Replay.{replayed, AreRising}
use Rattle.versioned_kv.specs.Chains.{Chain, value_at}

-- what contracts see of a store: the limit of values that an operation appends to, the oldest
-- version that can be read, the versions that were applied, and the rows of each key
pub record Contents : Type 0 where
  pub limit : ℕ
  pub oldest : ℕ
  pub versions : List ℕ
  pub chains : List Chain

-- the value of a key after all entries up to the version, from nothing on
abbrev pub applied_at : ℕ → List Batch → ℕ → Bytes → Option Bytes
applied_at limit entries version key = replayed limit entries 0 (version + 1) key None

-- These entries were applied to the store, one after the other, and from its oldest version on it
-- has their states.
pub record Holds (store : Contents) (entries : List Batch) : Type 0 where
  pub rising : AreRising entries
  pub versions : store.versions ≡ map (λ (entry : Batch). entry.version) entries
  pub states : (key : Bytes) (version : ℕ) → store.oldest ≤ version
      → value_at store.chains key version ≡ applied_at store.limit entries version key

-- past every version that was applied
abbrev pub IsPast : ℕ → List ℕ → Type 0
IsPast version versions = AllByRecursion (λ earlier. earlier < version) versions

-- one entry more
abbrev pub with_entry : List Batch → ℕ → List Mutation → List Batch
with_entry entries version muts = entries ++ record { version = version; muts = muts } ∷ []

-- the same limit and oldest version, with these versions applied
pub record StandsWith (old : Contents) (applied : List ℕ) (new : Contents) : Type 0 where
  pub limit : new.limit ≡ old.limit
  pub oldest : new.oldest ≡ old.oldest
  pub versions : new.versions ≡ applied

-- there is a newest version, and it isn't forgotten
abbrev pub IsRetractable : Contents → Type 0
IsRetractable store =
    (versions : List ℕ) × (version : ℕ) × (store.versions ≡ versions ++ version ∷ [])
    × (store.oldest < version)
