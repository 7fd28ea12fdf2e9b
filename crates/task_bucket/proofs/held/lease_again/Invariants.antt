use Rattle.std.proofs.Common.{◌≡◌}
use Rattle.task_bucket.specs.inner.Held.{asleep}
use Rattle.fb_bytes.proofs.Mapped.{mapped}
use Rattle.task_bucket.proofs.held.lease_again.Given as goal

abbrev pub invariant-loop-one : goal.invariant-loop-one
invariant-loop-one l = l.held ≡ mapped asleep l.one-index l.initial.held
