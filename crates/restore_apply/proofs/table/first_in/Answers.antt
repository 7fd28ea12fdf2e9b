use Rattle.restore_apply.proofs.Tables.{told, from_within, none_within, below_not_gt, first_is}
use Rattle.restore_apply.proofs.table.first_in.Goals as goal

pub returns-then-not-is_below : goal.returns-then-not-is_below
returns-then-not-is_below c =
    let back = told _ _ c.args.begin.now c.args.end.now _ _ c.as_slice.ensures.same c.as_slice-2.ensures.same c.is_below.ensures c.if-not-is_below.true in
    λ key h. none_within c.args.table.now c.args.begin.now c.args.end.now key back h

pub range-requires : goal.range-requires
range-requires c =
    let forward = told _ _ c.args.begin.now c.args.end.now _ _ c.as_slice.ensures.same c.as_slice-2.ensures.same c.is_below.ensures c.if-not-is_below.false in
    below_not_gt c.args.begin.now c.args.end.now forward

pub returns-in_ok-key-in-Some : goal.returns-in_ok-key-in-Some
returns-in_ok-key-in-Some c = first_is c.args.table.now c.args.begin.now c.args.end.now c.range.result c.next.new.self c.in-Some.key.now _ c.in_ok-key-in-Some.key c.in-Some.ensures.steps (c.range.ensures.in_range tt).1 c.in_ok-key-in-Some.ensures

pub returns-in-None : goal.returns-in-None
returns-in-None c = λ key h. (c.range.ensures.in_range tt).5 c.in-None.ensures.steps.0 key (from_within c.args.begin.now c.args.end.now key h)
