use Rattle.std.proofs.Common.{arith}
use Rattle.task_futures.proofs.Finding.{cleared_there, cleared_none}
use Rattle.task_futures.proofs.settling.clear.Goals as goal

pub returns-then-place-futures : goal.returns-then-place-futures
returns-then-place-futures c = cleared_there c.args.part c.args.futures.now c.place_of-place.result c.clear.new.self _ c.requires c.place_of-place.ensures.place c.if-place-futures.true c.clear.ensures.cleared

pub returns-else-place-futures : goal.returns-else-place-futures
returns-else-place-futures c = cleared_none c.args.part c.args.futures.now (omega (arith, c.if-place-futures.false, c.place_of-place.ensures.place))
