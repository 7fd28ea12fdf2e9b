use Rattle.std.proofs.Common.{◌+◌, sym, ◌∙◌, subst}
use Rattle.std.specs.Option.{option_copied}
use Rattle.restore_apply.proofs.Sweeps.{Swept, swept_next, swept_end}
use Rattle.restore_apply.proofs.overlaps.first_overlap.Goals as goal

pub loop-at-preserved : goal.loop-at-preserved
loop-at-preserved c =
    subst (Swept c.args.order.now (c.loop-at.at-index + 1)) (sym c.further-last.ensures)
    (swept_next c.args.order.now c.loop-at.at-index c.at-item.result (option_copied c.loop-at.last) c.loop-at-test.true c.at-item.is (sym c.overlaps_last.ensures ∙ c.if-overlaps_last.false) c.loop-at.invariant)

pub returns : goal.returns
returns c = swept_end c.args.order.now c.loop-at.at-index (option_copied c.loop-at.last) c.loop-at-test.false c.loop-at.invariant
