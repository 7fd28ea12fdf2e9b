use Rattle.std.proofs.Common.{ap, ◌∙◌}
use Rattle.fb_bytes.specs.Keys.{is_backwards}
use Rattle.fb_bytes.proofs.Places.{sound_list}
use Rattle.fb_bytes.proofs.Joined.{is_joined}
use Rattle.fb_bytes.proofs.Unions.{none_joined, one_joined, all_joined}
use Rattle.fb_bytes.proofs.ranges.joined.Goals as goal

pub loop-range-init : goal.loop-range-init
loop-range-init c = none_joined c.args.list.now c.new-ranges.result.items c.new-ranges.ensures.items

pub loop-range-preserved : goal.loop-range-preserved
loop-range-preserved c =
    one_joined c.args.list.now c.loop-range.ranges.items c.in_ok-ranges.ranges.items c.loop-range.range-index c.in_ok-copy.field-0 c.range-item.result (sound_list c.args.list.now c.requires)
    c.loop-range-test.true (c.in_ok-copy.ensures ∙ c.range-item.is) c.loop-range.invariant c.in_ok-ranges.ensures

pub returns-clause-union : goal.returns-clause-union
returns-clause-union c = (all_joined c.args.list.now c.loop-range.ranges.items c.loop-range.range-index (sound_list c.args.list.now c.requires) c.loop-range-test.false c.loop-range.auto.range-index-end c.loop-range.invariant).0

pub returns-clause-ranges : goal.returns-clause-ranges
returns-clause-ranges c = (all_joined c.args.list.now c.loop-range.ranges.items c.loop-range.range-index (sound_list c.args.list.now c.requires) c.loop-range-test.false c.loop-range.auto.range-index-end c.loop-range.invariant).1

pub returns-clause-joined : goal.returns-clause-joined
returns-clause-joined c = is_joined c.args.list.now c.loop-range.ranges.items c.requires (returns-clause-ranges c) (returns-clause-union c)

pub add_range-requires-clause-forward : goal.add_range-requires-clause-forward
add_range-requires-clause-forward c =
    let sound = sound_list c.args.list.now c.requires in
    ap is_backwards (c.in_ok-copy.ensures ∙ c.range-item.is) ∙ sound.forward c.loop-range.range-index c.range-item.result c.loop-range-test.true
