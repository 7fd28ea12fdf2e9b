use Rattle.std.proofs.Common.{◌-◌, length}
use Rattle.task_futures.proofs.Nearing.{IsDueSo}
use Rattle.task_futures.proofs.due.due_in.Given as goal

abbrev pub invariant-loop-place : goal.invariant-loop-place
invariant-loop-place l = IsDueSo l.fn.part l.futures l.first l.pending.items l.due

abbrev pub decreases-loop-place : goal.decreases-loop-place
decreases-loop-place l = length l.futures - l.first
