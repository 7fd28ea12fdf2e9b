use Rattle.std.proofs.Common.{arith, refl}
use Rattle.task_futures.proofs.Joining.{linked_step, linked_last}
use Rattle.task_futures.proofs.links.link_each.Goals as goal

pub loop-i-preserved : goal.loop-i-preserved
loop-i-preserved c = linked_step c.args.futures.now c.args.join c.args.parts.now c.loop-i.i c.loop-i.futures c.link.new.futures c.loop-i.block c.next-block.result _ c.in-Ok.linked c.loop-i-test.true refl c.loop-i.invariant c.in-Ok.ensures.answer c.next-block.ensures c.in-Ok.ensures.ok

pub returns-clause-ok : goal.returns-clause-ok
returns-clause-ok c = linked_last c.args.futures.now c.args.join c.args.parts.now c.loop-i.i c.loop-i.futures c.loop-i.block (omega (arith, c.loop-i-test.false)) c.requires.next c.loop-i.invariant
