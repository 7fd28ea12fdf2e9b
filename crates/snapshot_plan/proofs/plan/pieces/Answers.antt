use Rattle.std.proofs.Common.{◌≡◌, sym, ap, ◌∙◌, subst}
use Rattle.std.proofs.Math.ListN.{drop_of_length-le}
use Rattle.snapshot_plan.specs.Plans as spec
use Rattle.snapshot_plan.specs.Plans.{IsPlan}
use Rattle.snapshot_plan.proofs.Cutting.{is_plan, planned_step, planned_all}
use Rattle.snapshot_plan.proofs.plan.pieces.Goals as goal

pub each-preserved : goal.each-preserved
each-preserved c =
    planned_step c.args.shard c.args.keys.now c.as_slice-list.result.now c.each.range-index c.each.rest.now c.each.pieces.items c.range-item.result c.as_slice.result.now c.as_slice-in-each.result.now c.split_below.result.1.now c.split_below-in-each.result.0.now c.split_below-in-each.result.1.now c.push_pieces.new.pieces.items c.each.invariant c.each-test.true c.range-item.is c.as_slice.ensures.same c.as_slice-in-each.ensures.same c.split_below.ensures.rest c.split_below-in-each.ensures.front c.split_below-in-each.ensures.rest c.in_ok-push_pieces.ensures

pub returns-clause-plan : goal.returns-clause-plan
returns-clause-plan c =
    let shard = c.args.shard in
    let keys = c.args.keys.now in
    let list = c.as_slice-list.result.now in
    let e : c.from_vec.result ≡ spec.pieces shard keys c.args.ranges.now = c.from_vec.ensures ∙ planned_all shard keys list c.each.range-index c.each.rest.now c.each.pieces.items c.each.invariant (drop_of_length-le list c.each-test.false) ∙ ap (spec.pieces shard keys) c.as_slice-list.ensures.same in
    subst (λ ps. IsPlan c.args.ranges.now ps) (sym e) (is_plan shard keys c.args.ranges.now c.as_slice-rest.ensures.rising c.as_slice-list.ensures.ranges.separate)
