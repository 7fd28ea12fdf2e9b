use Rattle.std.proofs.Common.{◌≡◌, ◌+◌, cond, subst, sym, ap, ◌∙◌}
use Rattle.fb_bytes.specs.Bytes.{Bytes, is_below}
use Rattle.fb_bytes.specs.Keys.{holds}
use Rattle.snapshot_plan.specs.Noted.{Noted}
use Rattle.snapshot_plan.proofs.Placing.{at_place}
use Rattle.snapshot_plan.proofs.Walks.{Walks, walk_stops, walk_reaches, walk_goes_on}
use Rattle.snapshot_plan.proofs.least_keys.reach.Goals as goal

pub returns-then-is_below-clause-gap : goal.returns-then-is_below-clause-gap
returns-then-is_below-clause-gap c =
    let one = c.index-noted-place.result in
    let begin : c.as_slice.result.now ≡ one.piece.begin = c.as_slice.ensures.same ∙ ap (λ (n : Noted). n.piece.begin) (sym c.index-noted-place.is) in
    walk_stops c.args.noted.now c.args.range.now c.args.from c.walk.place c.walk.key.now one c.walk.invariant (at_place c.args.noted.now c.walk.place one c.walk-test.true c.index-noted-place.is)
    (ap (is_below c.walk.key.now) (sym begin) ∙ sym c.is_below.ensures ∙ c.if-is_below.true)

pub returns-then-not-is_below-clause-reaches : goal.returns-then-not-is_below-clause-reaches
returns-then-not-is_below-clause-reaches c =
    let one = c.index-noted-place.result in
    let begin : c.as_slice.result.now ≡ one.piece.begin = c.as_slice.ensures.same ∙ ap (λ (n : Noted). n.piece.begin) (sym c.index-noted-place.is) in
    let end : c.as_slice-in-walk.result.now ≡ one.piece.end = c.as_slice-in-walk.ensures.same ∙ ap (λ (n : Noted). n.piece.end) (sym c.index-noted-place.is) in
    walk_reaches c.args.noted.now c.args.range.now c.args.from c.walk.place c.walk.key.now one c.walk.invariant c.walk-test.true (at_place c.args.noted.now c.walk.place one c.walk-test.true c.index-noted-place.is)
    (ap (is_below c.walk.key.now) (sym begin) ∙ sym c.is_below.ensures ∙ c.if-is_below.false)
    (ap (λ k. is_below k c.args.range.now.end) (sym end) ∙ ap (is_below c.as_slice-in-walk.result.now) (sym c.as_slice-in-walk-2.ensures.same) ∙ sym c.is_below-in-walk.ensures ∙ c.if-not-is_below.true)

pub walk-preserved : goal.walk-preserved
walk-preserved c =
    let one = c.index-noted-place.result in
    let end : c.as_slice-in-walk.result.now ≡ one.piece.end = c.as_slice-in-walk.ensures.same ∙ ap (λ (n : Noted). n.piece.end) (sym c.index-noted-place.is) in
    let key : c.past-key.result.now ≡ cond (holds one.piece c.walk.key.now) one.piece.end c.walk.key.now = c.past-key.ensures ∙ ap (λ (n : Noted). cond (holds n.piece c.walk.key.now) n.piece.end c.walk.key.now) (sym c.index-noted-place.is) in
    subst (λ (k : Bytes). Walks c.args.noted.now c.args.range.now c.args.from (c.walk.place + 1) k) (sym key)
    (walk_goes_on c.args.noted.now c.args.range.now c.args.from c.walk.place c.walk.key.now one c.walk.invariant (at_place c.args.noted.now c.walk.place one c.walk-test.true c.index-noted-place.is)
    (ap (λ k. is_below k c.args.range.now.end) (sym end) ∙ ap (is_below c.as_slice-in-walk.result.now) (sym c.as_slice-in-walk-2.ensures.same) ∙ sym c.is_below-in-walk.ensures ∙ c.if-not-is_below.false))
