use Rattle.std.proofs.Common.{arith}
use Rattle.task_futures.proofs.Falling.{settles_first, settles_on, settles_all}
use Rattle.task_futures.proofs.settling.settle.Goals as goal

pub loop-i-init : goal.loop-i-init
loop-i-init c = settles_first c.args.futures.now c.args.first c.requires.rising c.requires.front

pub pass_on-requires-clause-rising : goal.pass_on-requires-clause-rising
pass_on-requires-clause-rising c = c.loop-i.invariant.rising

pub loop-i-preserved : goal.loop-i-preserved
loop-i-preserved c = settles_on c.args.futures.now c.loop-i.i c.loop-i.futures c.pass_on.new.futures (omega arith) c.loop-i.invariant c.pass_on.ensures

pub returns : goal.returns
returns c = settles_all c.args.futures.now c.loop-i.i c.loop-i.futures (omega arith) c.loop-i.invariant
