use Rattle.std.proofs.Common.{◌∙◌}
use Rattle.database.specs.Logs.{erased_to}
use Rattle.fb_bytes.proofs.Mapped.{mapped-step, mapped-all}
use Rattle.database.proofs.job_log.erase_log.Goals as goal

pub loop-log-preserved : goal.loop-log-preserved
loop-log-preserved c = mapped-step (erased_to c.args.job c.args.below) c.loop-log.log-index c.args.logs.now c.loop-log.logs c.erase_to.new.log _ c.loop-log-test.true c.loop-log.invariant c.erase_to.ensures

pub returns : goal.returns
returns c = c.loop-log.invariant ∙ mapped-all (erased_to c.args.job c.args.below) c.loop-log.log-index c.args.logs.now c.loop-log-test.false
