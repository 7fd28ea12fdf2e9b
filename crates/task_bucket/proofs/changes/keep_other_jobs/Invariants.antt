use Rattle.task_bucket.proofs.Keeping.{IsKeeping}
use Rattle.task_bucket.proofs.changes.keep_other_jobs.Given as goal

abbrev pub invariant-loop-at : goal.invariant-loop-at
invariant-loop-at l = IsKeeping l.job l.initial.held.items l.held.items l.kept l.at l.free
