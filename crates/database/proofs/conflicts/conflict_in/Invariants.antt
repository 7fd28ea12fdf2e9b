use Rattle.std.proofs.Common.{◌≡◌, drop}
use Rattle.database.specs.inner.Conflicts.{conflict_in}
use Rattle.database.proofs.conflicts.conflict_in.Given as goal

abbrev pub invariant-loop-entry : goal.invariant-loop-entry
invariant-loop-entry l = conflict_in l.ops (drop l.entry-index l.entries) ≡ conflict_in l.ops l.entries
