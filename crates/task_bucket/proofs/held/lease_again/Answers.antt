use Rattle.std.proofs.Common.{◌∙◌}
use Rattle.task_bucket.specs.inner.Held.{asleep}
use Rattle.fb_bytes.proofs.Mapped.{mapped-step, mapped-all}
use Rattle.task_bucket.proofs.held.lease_again.Goals as goal

pub loop-one-preserved : goal.loop-one-preserved
loop-one-preserved c = mapped-step asleep c.loop-one.one-index c.args.held.now c.loop-one.held c.lease_again.new.self _ c.loop-one-test.true c.loop-one.invariant c.lease_again.ensures

pub returns : goal.returns
returns c = c.loop-one.invariant ∙ mapped-all asleep c.loop-one.one-index c.args.held.now c.loop-one-test.false
