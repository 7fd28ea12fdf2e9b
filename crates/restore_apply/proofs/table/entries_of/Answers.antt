use Rattle.restore_apply.proofs.Tables.{entry_next}
use Rattle.restore_apply.proofs.table.entries_of.Goals as goal

pub loop-pair-preserved : goal.loop-pair-preserved
loop-pair-preserved c = entry_next c.loop-pair.entries.items c.push.new.self.items c.in-Some.pair c.loop-pair.pair-iterator.rest.items c.next.new.self.rest.items c.args.pairs.items c.in_ok-push.ensures.items c.in-Some.ensures.steps.0 c.loop-pair.invariant
