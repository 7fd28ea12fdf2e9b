use Rattle.mutations.specs.Histories.{batches_of}
use Rattle.database.proofs.InStep.{kept_less, last_held, last_version, last_batch}
use Rattle.database.proofs.keeping.take_kept.Goals as goal

pub returns-in-Some-clause-kept : goal.returns-in-Some-clause-kept
returns-in-Some-clause-kept c block lock logs k =
    let front = c.pop.new.self in
    let last = c.in-Some.entry in
    kept_less block c.args.history.now front last lock logs c.args.keys.now c.retract-in-Some.new.self c.args.store.now c.retract.new.self
    c.in-Some.ensures.some c.retract-in-Some.ensures
    (c.retract.ensures.holds (batches_of front) (last_batch last) (last_held c.args.history.now front last c.args.store.now c.in-Some.ensures.some k.holds))
    (c.retract.ensures.same _ last.version (last_version c.args.history.now front last c.args.store.now c.in-Some.ensures.some k.holds)).limit
    k
