use Rattle.std.proofs.Common.{arith}
use Rattle.task_bucket.specs.inner.Held.{retimed_held}
use Rattle.task_bucket.proofs.Finding.{changed_there, changed_none, retimes_other}
use Rattle.task_bucket.proofs.held.retime.Goals as goal

pub returns-then-place-held : goal.returns-then-place-held
returns-then-place-held c =
    changed_there c.args.uid (retimed_held c.args.until c.args.uid c.args.new) (retimes_other c.args.until c.args.uid c.args.new) c.args.held.now c.place_of-place.result c.retime_if.new.self _ c.requires c.place_of-place.ensures c.if-place-held.true c.retime_if.ensures

pub returns-else-place-held : goal.returns-else-place-held
returns-else-place-held c = changed_none c.args.uid (retimed_held c.args.until c.args.uid c.args.new) (retimes_other c.args.until c.args.uid c.args.new) c.args.held.now (omega (arith, c.if-place-held.false, c.place_of-place.ensures))
