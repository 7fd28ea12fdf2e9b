use Rattle.std.proofs.Common.{drop, ◌+◌}
use Rattle.database.proofs.Logged.{putting_first, putting_here, putting_free, putting_few, putting_next, putting_done}
use Rattle.database.proofs.logging.put_each.Goals as goal

pub loop-log-init : goal.loop-log-init
loop-log-init c = putting_first c.unused_law.ensures c.args.entry.now.version c.args.entry.now.muts c.args.logs.now c.args.keys.now c.requires.below c.requires.order c.requires.logged

pub put_one-requires-clause-free : goal.put_one-requires-clause-free
put_one-requires-clause-free c =
    let v = c.args.entry.now.version in
    let i = c.loop-log.log-index in
    putting_free v c.args.entry.now.muts c.args.logs.now (drop (i + 1) c.args.logs.now) c.args.keys.now c.loop-log.keys c.log-item.result
    (putting_here v c.args.entry.now.muts c.args.logs.now c.args.keys.now c.loop-log.keys i c.log-item.result c.loop-log-test.true c.log-item.is c.loop-log.invariant)

pub put_one-requires-clause-few : goal.put_one-requires-clause-few
put_one-requires-clause-few c =
    let v = c.args.entry.now.version in
    let i = c.loop-log.log-index in
    putting_few v c.args.entry.now.muts c.args.logs.now (drop (i + 1) c.args.logs.now) c.args.keys.now c.loop-log.keys c.log-item.result
    (putting_here v c.args.entry.now.muts c.args.logs.now c.args.keys.now c.loop-log.keys i c.log-item.result c.loop-log-test.true c.log-item.is c.loop-log.invariant)

pub loop-log-preserved : goal.loop-log-preserved
loop-log-preserved c =
    let v = c.args.entry.now.version in
    let i = c.loop-log.log-index in
    putting_next c.undo_law.ensures v c.args.entry.now.muts c.args.logs.now (drop (i + 1) c.args.logs.now) c.args.keys.now c.loop-log.keys c.put_one.new.keys c.log-item.result c.in_ok-put_one.ensures.ok
    (putting_here v c.args.entry.now.muts c.args.logs.now c.args.keys.now c.loop-log.keys i c.log-item.result c.loop-log-test.true c.log-item.is c.loop-log.invariant)

pub returns-clause-ok : goal.returns-clause-ok
returns-clause-ok c = putting_done c.args.entry.now.version c.args.entry.now.muts c.args.logs.now c.args.keys.now c.loop-log.keys c.loop-log.log-index c.loop-log-test.false c.loop-log.invariant
