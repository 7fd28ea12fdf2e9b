use Rattle.std.proofs.Common.{ap, ◌∙◌}
use Rattle.fb_bytes.specs.Keys.{in_ranges}
use Rattle.fb_bytes.proofs.Halving.{found_in, missing_in}
use Rattle.fb_bytes.proofs.ranges.Ranges.contains.Goals as goal

pub returns-then-place-ranges : goal.returns-then-place-ranges
returns-then-place-ranges c =
    c.contains.ensures
    ∙ found_in c.as_slice-ranges.result.now c.self.inside.ranges.items c.ranges_before-place.result c.args.key.now c.index-ranges-place.result
    c.as_slice-ranges.ensures.value c.self.invariant.separate c.ranges_before-place.ensures c.if-place-ranges.true c.index-ranges-place.is
    ∙ ap (λ list. in_ranges list c.args.key.now) c.self.view_is

pub returns-else-place-ranges : goal.returns-else-place-ranges
returns-else-place-ranges c =
    missing_in c.as_slice-ranges.result.now c.self.inside.ranges.items c.ranges_before-place.result c.args.key.now
    c.as_slice-ranges.ensures.value c.self.invariant.separate c.ranges_before-place.ensures c.if-place-ranges.false
    ∙ ap (λ list. in_ranges list c.args.key.now) c.self.view_is
