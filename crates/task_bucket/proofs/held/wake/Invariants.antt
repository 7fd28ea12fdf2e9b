use Rattle.task_bucket.proofs.Waking.{IsWaking}
use Rattle.task_bucket.proofs.held.wake.Given as goal

abbrev pub invariant-loop-at : goal.invariant-loop-at
invariant-loop-at l = IsWaking l.now l.pick l.initial.held l.held l.at l.count l.place
