-- What the code of conflicts answers.
use Rattle.std.specs.Prelude.{ℕ, List, [], ◌∷◌, Option, Some, None}
use Rattle.std.specs.Prelude.{if◌then◌else◌}
use Rattle.mutations.specs.declared.Entry.{Entry}
use Rattle.mutations.specs.declared.Mutation.{Mutation}
use Rattle.mutations.specs.declared.TxOp.{TxOp}
use Rattle.database.specs.Reads.{have_conflict, first_conflict}

-- the version of the first entry with which the operations conflict
abbrev pub conflict_in : List TxOp → List Entry → Option ℕ
conflict_in ops [] = None
conflict_in ops (entry ∷ entries) =
    if have_conflict ops entry.muts then Some entry.version else conflict_in ops entries

-- the first conflict of operations with these writes, where there are any
abbrev pub conflict_of : List Mutation → List TxOp → ℕ → List Entry → Option ℕ
conflict_of [] ops read history = None
conflict_of (m ∷ ms) ops read history = first_conflict ops read history
