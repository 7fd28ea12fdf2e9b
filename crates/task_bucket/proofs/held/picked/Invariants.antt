use Rattle.task_bucket.proofs.Walks.{IsWalked}
use Rattle.task_bucket.proofs.held.picked.Given as goal

abbrev pub invariant-loop-step : goal.invariant-loop-step
invariant-loop-step l = IsWalked l.pick l.held l.step
