use Rattle.std.proofs.Common.{◌∙◌, ap}
use Rattle.task_bucket.specs.inner.Held.{place_at}
use Rattle.task_bucket.proofs.Walks.{walk_stops, walk_goes_on, walk_ends}
use Rattle.task_bucket.proofs.held.picked.Goals as goal

pub returns-then-held-at : goal.returns-then-held-at
returns-then-held-at c =
    let at = c.place_at-at.ensures.at ∙ ap (λ n. place_at n c.loop-step.step) c.place_for-place.ensures.place in
    walk_stops c.args.pick c.args.held.now c.loop-step.step c.place_at-at.result c.index-held-at.result c.requires c.loop-step-test.true c.place_at-at.ensures.within at c.index-held-at.is (ap (λ h. h.free) c.index-held-at.is ∙ c.if-held-at.true) c.loop-step.invariant

pub loop-step-preserved : goal.loop-step-preserved
loop-step-preserved c =
    let at = c.place_at-at.ensures.at ∙ ap (λ n. place_at n c.loop-step.step) c.place_for-place.ensures.place in
    walk_goes_on c.args.pick c.args.held.now c.loop-step.step c.place_at-at.result c.index-held-at.result c.loop-step-test.true at c.index-held-at.is (ap (λ h. h.free) c.index-held-at.is ∙ c.if-held-at.false) c.loop-step.invariant

pub returns : goal.returns
returns c = walk_ends c.args.pick c.args.held.now c.loop-step.step c.requires c.loop-step-test.false c.loop-step.invariant
