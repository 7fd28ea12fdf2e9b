use Rattle.std.proofs.Common.{arith, sym}
use Rattle.task_bucket.proofs.Keeping.{drops_one, keeps_one}
use Rattle.task_bucket.proofs.changes.keep_other_jobs.Goals as goal

pub loop-at-preserved-then-is_of : goal.loop-at-preserved-then-is_of
loop-at-preserved-then-is_of c =
    drops_one c.args.job c.args.held.now.items c.loop-at.held.items c.loop-at.kept c.loop-at.at c.loop-at.free c.index-one.result.now (omega (arith, c.loop-at-test.true, c.len-at-end.ensures, c.loop-at.invariant.in_place.long, c.args.held.now.ok.0)) c.index-one.ensures (sym c.if-is_of.ensures) c.loop-at.invariant

pub loop-at-preserved : goal.loop-at-preserved
loop-at-preserved c =
    keeps_one c.args.job c.args.held.now.items c.loop-at.held.items c.swap.new.self.items c.loop-at.kept c.loop-at.at c.loop-at.free c.free_count-free.result c.index-one.result.now (omega (arith, c.loop-at-test.true, c.len-at-end.ensures, c.loop-at.invariant.in_place.long, c.args.held.now.ok.0)) c.index-one.ensures (sym c.if-is_of.ensures) c.free_count-free.ensures c.swap.ensures.by_index c.loop-at.invariant
