use Rattle.std.proofs.Common.{◌≡◌, drop}
use Rattle.mutations.specs.Histories.{locked_since, locked}
use Rattle.database.proofs.locking.lock_in.Given as goal

abbrev pub invariant-loop-entry : goal.invariant-loop-entry
invariant-loop-entry l = locked_since l.holder (drop l.entry-index l.history) ≡ locked l.history
