use Rattle.task_futures.proofs.Falling.{Settles}
use Rattle.task_futures.proofs.settling.settle.Given as goal

abbrev pub invariant-loop-i : goal.invariant-loop-i
invariant-loop-i l = Settles l.initial.futures l.i l.futures
