-- What a table ends as, once an entry that it lent was changed.
use Rattle.std.specs.Prelude.{ℕ, List, slice_set}
use Rattle.std.specs.Borrow.{Fml, RattleType, MutBor, Lends}
use Rattle.versioned_kv.specs.contracts.table.entries.Table.{the_row}

-- The table has what was left at the place, and its other entries are as they were.
abbrev pub LendsEntry : (T : RattleType) → MutBor (List T.Denot) → ℕ → MutBor T.Denot → Fml
LendsEntry T table place entry =
    Lends (the_row T) T table entry (λ left. slice_set table.now place left)
