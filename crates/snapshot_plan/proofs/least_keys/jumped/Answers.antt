use Rattle.std.proofs.Common.{◌∙◌}
use Rattle.snapshot_plan.proofs.Walks.{jump_there, jump_none}
use Rattle.snapshot_plan.proofs.least_keys.jumped.Goals as goal

pub returns-then-place-ranges : goal.returns-then-place-ranges
returns-then-place-ranges c = c.past.ensures ∙ jump_there c.args.ranges.now c.args.key.now c.ranges_passed-place.result c.index-ranges-place.result c.requires c.ranges_passed-place.ensures c.if-place-ranges.true c.index-ranges-place.is

pub returns-else-place-ranges : goal.returns-else-place-ranges
returns-else-place-ranges c = jump_none c.args.ranges.now c.args.key.now c.ranges_passed-place.result c.requires c.ranges_passed-place.ensures c.if-place-ranges.false
