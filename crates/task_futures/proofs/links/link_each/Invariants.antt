use Rattle.task_futures.proofs.Joining.{LinkedSo}
use Rattle.task_futures.proofs.links.link_each.Given as goal

abbrev pub invariant-loop-i : goal.invariant-loop-i
invariant-loop-i l = LinkedSo l.initial.futures l.join l.parts l.i l.futures l.block
