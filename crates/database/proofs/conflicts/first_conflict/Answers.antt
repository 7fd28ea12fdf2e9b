use Rattle.database.proofs.Since.{conflict_with, conflict_without}
use Rattle.mutations.specs.Transactions.{writes_of}
use Rattle.database.proofs.conflicts.first_conflict.Goals as goal

pub returns-then-not-has_writes : goal.returns-then-not-has_writes
returns-then-not-has_writes c = conflict_without (writes_of c.args.ops.now) c.args.ops.now c.args.read c.args.history.now (c.has_writes.ensures.none c.if-not-has_writes.true)

pub returns : goal.returns
returns c = conflict_with (writes_of c.args.ops.now) c.args.ops.now _ c.args.read c.args.history.now _ _ (c.has_writes.ensures.some c.if-not-has_writes.false) c.as_slice.ensures c.requires c.since.ensures c.conflict_in.ensures
