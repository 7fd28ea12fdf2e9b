use Rattle.std.proofs.Common.{sym, ◌∙◌}
use Rattle.fb_bytes.specs.Joining.{with_range}
use Rattle.fb_bytes.proofs.Unions.{joins, all_passed}
use Rattle.fb_bytes.proofs.joining.add_range.Goals as goal

pub returns : goal.returns
returns c =
    let rest = c.loop-next.next-iterator.rest.items in
    let none = sym c.loop-next.invariant.whole ∙ c.in-None.ensures.steps.0 in
    joins c.args.range c.args.ranges.items c.push-2.new.self.items c.requires.forward c.requires.separate
    (all_passed c.loop-next.new (with_range c.args.range c.args.ranges.items) c.loop-next.joined.items c.push-2.new.self.items rest c.loop-next.invariant.same none c.in_ok-push-3.ensures.items)
