use Rattle.std.proofs.Common.{ℕ, ◌+◌, Some, set, ap, subst, sym, ◌∙◌}
use Rattle.task_bucket.proofs.Waking.{IsWaking, wakes_one, waking_ends}
use Rattle.task_bucket.proofs.held.wake.Goals as goal

pub loop-at-preserved-then-not-wake : goal.loop-at-preserved-then-not-wake
loop-at-preserved-then-not-wake c =
    let step = wakes_one c.args.now c.args.pick c.args.held.now c.loop-at.held c.loop-at.at c.loop-at.count c.loop-at.place c.wake.new.self _ c.loop-at-test.true c.wake.ensures.woken c.loop-at.invariant in
    step.not_due (ap (λ h. h.free) c.wake.ensures.woken ∙ sym c.if-not-wake.ensures.due)

pub loop-at-preserved : goal.loop-at-preserved
loop-at-preserved c =
    let step = wakes_one c.args.now c.args.pick c.args.held.now c.loop-at.held c.loop-at.at c.loop-at.count c.loop-at.place c.wake.new.self _ c.loop-at-test.true c.wake.ensures.woken c.loop-at.invariant in
    subst (λ (n : ℕ). IsWaking c.args.now c.args.pick c.args.held.now (set c.loop-at.held c.loop-at.at c.wake.new.self) (c.loop-at.at + 1) (c.loop-at.count + 1) (Some n)) (sym c.later_place.ensures)
    (step.due (ap (λ h. h.free) c.wake.ensures.woken ∙ sym c.if-not-wake.ensures.due))

pub returns-clause-woken : goal.returns-clause-woken
returns-clause-woken c = (waking_ends c.args.now c.args.pick c.args.held.now c.loop-at.held c.loop-at.at c.loop-at.count c.loop-at.place c.requires c.loop-at-test.false c.loop-at.invariant).woken_all

pub returns-clause-count : goal.returns-clause-count
returns-clause-count c = (waking_ends c.args.now c.args.pick c.args.held.now c.loop-at.held c.loop-at.at c.loop-at.count c.loop-at.place c.requires c.loop-at-test.false c.loop-at.invariant).counted

pub returns-clause-place : goal.returns-clause-place
returns-clause-place c = (waking_ends c.args.now c.args.pick c.args.held.now c.loop-at.held c.loop-at.at c.loop-at.count c.loop-at.place c.requires c.loop-at-test.false c.loop-at.invariant).placed
