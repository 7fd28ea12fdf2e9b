use Rattle.std.proofs.Common.{◌-◌}
use Rattle.task_futures.proofs.Joining.{UnlinkedSo}
use Rattle.task_futures.proofs.links.unlink_each.Given as goal

abbrev pub invariant-loop-i : goal.invariant-loop-i
invariant-loop-i l = UnlinkedSo l.initial.futures l.parts (l.count - l.i) l.futures
