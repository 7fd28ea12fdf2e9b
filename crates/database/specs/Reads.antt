-- What the reads of a transaction find, and which entries they conflict with.
use Rattle.std.specs.Prelude.{ℕ, Bool, true, false, ◌&&◌, List, [], ◌∷◌, take, Option, Some, None, nat_lt}
use Rattle.std.specs.Prelude.{if◌then◌else◌}
use Rattle.std.specs.List.{flat_map, list_any}
use Rattle.block_frame.specs.Profiles.{limit_of}
use Rattle.mutations.specs.declared.Entry.{Entry}
use Rattle.mutations.specs.declared.Mutation.{Mutation}
use Rattle.mutations.specs.declared.TxOp.{TxOp}
use Rattle.mutations.specs.declared.TxOp.TheVariants.{Get, SnapshotGet, Scan, Write}
use Rattle.mutations.specs.Effects.{touches_key, touches}
use Rattle.mutations.specs.Histories.{state_at}
use Rattle.database.specs.declared.found.Found.{Found}
use Rattle.database.specs.declared.found.Found.TheVariants.{One, Many}
use Rattle.database.specs.Dumps.{pairs_at}

-- what an operation finds at a version, where it reads: the value of its key, or the first pairs of
-- its range
abbrev pub found_by : ℕ → List Entry → ℕ → TxOp → List Found
found_by block history version (Get key) =
    One (state_at (limit_of block) history version key) ∷ []
found_by block history version (SnapshotGet key) =
    One (state_at (limit_of block) history version key) ∷ []
found_by block history version (Scan range limit) =
    Many (take limit (pairs_at block history version range)) ∷ []
found_by block history version (Write mutation) = []

-- what the reads find at a version, in their order
abbrev pub reads_at : ℕ → List Entry → ℕ → List TxOp → List Found
reads_at block history version ops = flat_map (found_by block history version) ops

-- the operation is a read that conflicts with this mutation: it reads the key of it, or scans over
-- a key of it, be the value changed or not
abbrev pub conflicts : Mutation → TxOp → Bool
conflicts mutation (Get key) = touches_key mutation key
conflicts mutation (SnapshotGet key) = false
conflicts mutation (Scan range limit) = touches mutation range
conflicts mutation (Write other) = false

-- a read that can conflict
abbrev pub is_conflict_read : TxOp → Bool
is_conflict_read (Get key) = true
is_conflict_read (SnapshotGet key) = false
is_conflict_read (Scan range limit) = true
is_conflict_read (Write mutation) = false

-- some of the operations conflicts with one of the mutations
abbrev pub have_conflict : List TxOp → List Mutation → Bool
have_conflict ops muts = list_any (λ mutation. list_any (conflicts mutation) ops) muts

-- the version of the first entry past the read version with which the operations conflict
abbrev pub first_conflict : List TxOp → ℕ → List Entry → Option ℕ
first_conflict ops read [] = None
first_conflict ops read (entry ∷ history) =
    if nat_lt read entry.version && have_conflict ops entry.muts then Some entry.version
    else first_conflict ops read history
