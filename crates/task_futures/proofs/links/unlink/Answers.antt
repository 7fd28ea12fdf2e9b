use Rattle.std.proofs.Common.{arith}
use Rattle.task_futures.proofs.Joining.{unlink_there, unlink_none}
use Rattle.task_futures.proofs.links.unlink.Goals as goal

pub returns-then-place-futures : goal.returns-then-place-futures
returns-then-place-futures c = unlink_there c.args.number c.args.futures.now c.place_of-place.result _ c.unlink_last.new.self c.requires c.place_of-place.ensures.place c.if-place-futures.true c.unlink_last.ensures

pub returns-else-place-futures : goal.returns-else-place-futures
returns-else-place-futures c = unlink_none c.args.number c.args.futures.now (omega (arith, c.if-place-futures.false, c.place_of-place.ensures.place))
