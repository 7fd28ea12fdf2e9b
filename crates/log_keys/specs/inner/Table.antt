-- The table of parts, and the log that it holds.
use Rattle.std.specs.Prelude.{◌≡◌, ℕ, zero, suc, ◌<◌, Bool, true, false, nat_lt, ◌==◌, ◌&&◌, ◌||◌}
use Rattle.std.specs.Prelude.{List, [], ◌∷◌, ◌++◌, length, map, Option, Some, None, Result, Ok, Err}
use Rattle.std.specs.Prelude.{if◌then◌else◌}
use Rattle.std.specs.List.{AllByRecursion, filter, flat_map}
use Rattle.fb_bytes.specs.Bytes.{Bytes}
use Rattle.mutations.specs.declared.mutation.Mutation.{Mutation}
use Rattle.mutations.specs.declared.wire_fault.WireFault.{WireFault}
use Rattle.mutations.specs.declared.batch.Batch.{Batch}
use Rattle.mutations.specs.Reading.{decoded}
use Rattle.log_keys.specs.Keys.{Key, is_key_below}
use Rattle.log_keys.specs.Logs.{Standing, is_between}
use Rattle.log_keys.specs.inner.Parts.{Row, rows_from, spelled}
pub use Rattle.log_keys.specs.declared.whole.Whole.{Whole}

-- ---- what the parts say

abbrev pub whole_of : Row → Whole
whole_of row = record { job = row.key.job; version = row.key.version; bytes = row.piece }

-- the row has the next piece
abbrev pub goes_on : Whole → Row → Bool
goes_on whole row = (row.key.job == whole.job) && (row.key.version == whole.version)

abbrev pub with_piece : Whole → Row → Whole
with_piece whole row =
    record { job = whole.job; version = whole.version; bytes = whole.bytes ++ row.piece }

-- the pieces of each job and version joined, where some are joined so far
abbrev pub joined_onto : Whole → List Row → List Whole
joined_onto whole [] = whole ∷ []
joined_onto whole (row ∷ rows) =
    if goes_on whole row then joined_onto (with_piece whole row) rows
    else whole ∷ joined_onto (whole_of row) rows

abbrev pub joined : List Row → List Whole
joined [] = []
joined (row ∷ rows) = joined_onto (whole_of row) rows

abbrev pub joined_with : Option Whole → List Row → List Whole
joined_with None rows = joined rows
joined_with (Some whole) rows = joined_onto whole rows

abbrev pub muts_or_none : Result (List Mutation) WireFault → List Mutation
muts_or_none (Ok muts) = muts
muts_or_none (Err fault) = []

abbrev pub muts_in : Bytes → List Mutation
muts_in bytes = muts_or_none (decoded bytes)

abbrev pub standing_of : Whole → Standing
standing_of whole = record { job = whole.job; version = whole.version; muts = muts_in whole.bytes }

abbrev pub batch_in : Whole → Batch
batch_in whole = record { version = whole.version; muts = muts_in whole.bytes }

-- the log that a table of parts holds
abbrev pub log_in : List Row → List Standing
log_in rows = map standing_of (joined rows)

-- ---- what always holds of a table

-- the pieces of one batch
pub record Group : Type 0 where
  pub job : ℕ
  pub version : ℕ
  pub pieces : List Bytes

abbrev pub rows_of : Group → List Row
rows_of group = rows_from group.job group.version 0 group.pieces

abbrev pub is_group_before : ℕ → ℕ → Group → Bool
is_group_before job version group =
    nat_lt group.job job || ((group.job == job) && nat_lt group.version version)

-- by job, then by version, each once
abbrev pub AreInOrder : List Group → Type 0
AreInOrder [] = Unit {0}
AreInOrder (group ∷ groups) =
    AllByRecursion (λ later. is_group_before later.job later.version group ≡ true) groups
    × AreInOrder groups

-- the bytes are read as a batch
abbrev pub IsRead : Bytes → Type 0
IsRead bytes = (muts : List Mutation) × (decoded bytes ≡ Ok muts)

-- there are pieces, and together they are a batch
pub record IsWhole (group : Group) : Type 0 where
  pub some : 0 < length group.pieces
  pub read : IsRead (spelled group.pieces)

-- keys rise by job, version and part, which is their byte order
abbrev pub AreRising : List Row → Type 0
AreRising [] = Unit {0}
AreRising (row ∷ rows) =
    AllByRecursion (λ later. is_key_below row.key later.key ≡ true) rows × AreRising rows

-- The parts of whole batches, in the order of their keys, the parts of each batch numbered from 0.
pub record IsTable (rows : List Row) : Type 0 where
  pub rise : AreRising rows
  pub groups : List Group
  pub are : rows ≡ flat_map rows_of groups
  pub order : AreInOrder groups
  pub whole : AllByRecursion IsWhole groups

-- ---- places

-- how many keys at the front are below a key
abbrev pub keys_below : Key → List Row → ℕ
keys_below key [] = zero
keys_below key (row ∷ rows) = if is_key_below row.key key then suc (keys_below key rows) else zero

-- some row is of the job and the version
abbrev pub has_part : ℕ → ℕ → List Row → Bool
has_part job version [] = false
has_part job version (row ∷ rows) =
    ((row.key.job == job) && (row.key.version == version)) || has_part job version rows

-- the rows of a job from begin on and before end
abbrev pub rows_between : ℕ → ℕ → ℕ → List Row → List Row
rows_between job begin end rows =
    filter (λ row. is_between job begin end row.key.job row.key.version) rows
