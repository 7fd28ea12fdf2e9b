use Rattle.std.proofs.Common.{ap, sym, ◌∙◌, arith}
use Rattle.task_futures.specs.Futures.{is_some_block}
use Rattle.task_futures.proofs.Finding.{open_at, missing_all}
use Rattle.task_futures.proofs.settling.is_open.Goals as goal

pub returns-then-place-futures : goal.returns-then-place-futures
returns-then-place-futures c =
    c.is_open_one.ensures ∙ open_at c.args.number c.args.futures.now c.place_of-place.result c.index-futures-place.result c.requires c.place_of-place.ensures.place c.if-place-futures.true c.index-futures-place.is

pub returns-else-place-futures : goal.returns-else-place-futures
returns-else-place-futures c = sym (ap is_some_block (missing_all c.args.number c.args.futures.now (omega (arith, c.if-place-futures.false, c.place_of-place.ensures.place))))
