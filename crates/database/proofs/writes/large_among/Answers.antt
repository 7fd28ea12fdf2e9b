use Rattle.std.proofs.Common.{sym, ◌∙◌}
use Rattle.database.proofs.Committing.{large_here, large_later}
use Rattle.database.proofs.writes.large_among.Goals as goal

pub returns-in-Ok-Some : goal.returns-in-Ok-Some
returns-in-Ok-Some c = large_here c.args.logs.now c.args.muts.now c.loop-log.log-index c.log-item.result c.in-Ok-Some.bytes c.loop-log-test.true c.log-item.is (sym c.in-Ok-Some.field-0-is ∙ c.in-Ok-Some.ensures) c.loop-log.invariant

pub loop-log-preserved : goal.loop-log-preserved
loop-log-preserved c = large_later c.args.logs.now c.args.muts.now c.loop-log.log-index c.log-item.result c.loop-log-test.true c.log-item.is (sym c.in-Ok-None.field-0-is ∙ c.in-Ok-None.ensures) c.loop-log.invariant
