use Rattle.std.proofs.Common.{◌∙◌}
use Rattle.task_futures.specs.Futures.{unjoined}
use Rattle.fb_bytes.proofs.Mapped.{mapped-step, mapped-all}
use Rattle.task_futures.proofs.settling.unlink_all.Goals as goal

pub loop-one-preserved : goal.loop-one-preserved
loop-one-preserved c = mapped-step (unjoined c.args.number) c.loop-one.one-index c.args.futures.now c.loop-one.futures c.unlink.new.self _ c.loop-one-test.true c.loop-one.invariant c.unlink.ensures

pub returns : goal.returns
returns c = c.loop-one.invariant ∙ mapped-all (unjoined c.args.number) c.loop-one.one-index c.args.futures.now c.loop-one-test.false
