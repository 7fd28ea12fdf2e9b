use Rattle.std.proofs.Common.{◌≡◌, drop}
use Rattle.task_futures.specs.inner.Changes.{nearest, nearest_onto}
use Rattle.task_futures.proofs.due.nearest.Given as goal

abbrev pub invariant-loop-part : goal.invariant-loop-part
invariant-loop-part l = nearest_onto l.bound l.least (drop l.part-index l.pending) ≡ nearest l.bound l.pending
