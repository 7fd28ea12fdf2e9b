use Rattle.mutations.specs.Effects.{range_of}
use Rattle.restore_apply.proofs.Tables.{clear_next, first_held}
use Rattle.restore_apply.proofs.table.clear.Goals as goal

pub loop-key-preserved-in-Some : goal.loop-key-preserved-in-Some
loop-key-preserved-in-Some c =
    let held = first_held c.loop-key.table c.args.begin.now c.args.end.now c.in_ok-key.field-0 c.in-Some.key c.in-Some.is c.in_ok-key.ensures in
    λ key. clear_next (range_of c.args.begin.now c.args.end.now) c.args.table.now c.loop-key.table c.remove.new.self c.in-Some.key key held c.remove.ensures.updates (c.loop-key.invariant key)

pub loop-key-preserved-in-Some-2 : goal.loop-key-preserved-in-Some-2
loop-key-preserved-in-Some-2 c =
    let held = first_held c.loop-key.table c.args.begin.now c.args.end.now c.in_ok-key.field-0 c.in-Some.key c.in-Some.is c.in_ok-key.ensures in
    λ key. clear_next (range_of c.args.begin.now c.args.end.now) c.args.table.now c.loop-key.table c.remove.new.self c.in-Some.key key held c.remove.ensures.updates (c.loop-key.invariant key)

pub loop-key-preserved : goal.loop-key-preserved
loop-key-preserved c =
    let held = first_held c.loop-key.table c.args.begin.now c.args.end.now c.in_ok-key.field-0 c.in-Some.key c.in-Some.is c.in_ok-key.ensures in
    λ key. clear_next (range_of c.args.begin.now c.args.end.now) c.args.table.now c.loop-key.table c.remove.new.self c.in-Some.key key held c.remove.ensures.updates (c.loop-key.invariant key)
