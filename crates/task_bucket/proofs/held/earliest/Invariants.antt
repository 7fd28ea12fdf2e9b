use Rattle.std.proofs.Common.{◌≡◌, drop}
use Rattle.task_bucket.specs.Lists.{least_until}
use Rattle.task_bucket.specs.inner.Held.{leases_in, least_of}
use Rattle.task_bucket.proofs.held.earliest.Given as goal

abbrev pub invariant-loop-one : goal.invariant-loop-one
invariant-loop-one l = least_of l.least (least_until (leases_in (drop l.one-index l.held))) ≡ least_until (leases_in l.held)
