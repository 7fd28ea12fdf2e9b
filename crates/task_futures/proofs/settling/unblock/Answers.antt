use Rattle.std.proofs.Common.{sym, ◌∙◌, arith}
use Rattle.task_futures.proofs.Finding.{passed_front}
use Rattle.task_futures.proofs.Falling.{unblocks_none, unblocks_open, unblocks_set, rising_there}
use Rattle.task_futures.proofs.settling.unblock.Goals as goal

pub returns-then-place-futures : goal.returns-then-place-futures
returns-then-place-futures c = unblocks_none c.args.part c.args.futures.now c.requires (omega (arith, c.if-place-futures.true, c.place_of-place.ensures.place))

pub returns-then-open : goal.returns-then-open
returns-then-open c = unblocks_open c.args.part c.args.futures.now c.place_of-place.result c.clear-open.new.self _ c.requires c.place_of-place.ensures.place c.if-place-futures.false c.clear-open.ensures.cleared (sym c.clear-open.ensures.open ∙ c.if-open.true)

pub settle-requires-clause-rising : goal.settle-requires-clause-rising
settle-requires-clause-rising c = rising_there c.args.part c.args.futures.now c.place_of-place.result c.clear-open.new.self _ c.requires c.place_of-place.ensures.place c.if-place-futures.false c.clear-open.ensures.cleared

pub settle-requires-clause-front : goal.settle-requires-clause-front
settle-requires-clause-front c = passed_front c.place_of-place.result c.args.futures.now c.clear-open.new.self c.requires.passed_on

pub returns : goal.returns
returns c = unblocks_set c.args.part c.args.futures.now c.place_of-place.result c.clear-open.new.self _ c.settle.new.futures c.requires c.place_of-place.ensures.place c.if-place-futures.false c.clear-open.ensures.cleared c.settle.ensures
