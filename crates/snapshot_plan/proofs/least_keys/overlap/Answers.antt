use Rattle.std.proofs.Common.{◌≡◌, sym, ap, ◌∙◌}
use Rattle.snapshot_plan.specs.Noted.{Noted}
use Rattle.snapshot_plan.specs.Pieces.{if_below, later}
use Rattle.snapshot_plan.proofs.Walks.{held_there, held_none}
use Rattle.snapshot_plan.proofs.least_keys.overlap.Goals as goal

pub returns-then-place-noted : goal.returns-then-place-noted
returns-then-place-noted c =
    let one = c.index-noted-place.result in
    let begin : c.as_slice.result.now ≡ one.piece.begin = c.as_slice.ensures.same ∙ ap (λ (n : Noted). n.piece.begin) (sym c.index-noted-place.is) in
    c.if_below.ensures
    ∙ ap (if_below c.later-key.result.now) c.as_slice-then-place-noted.ensures.same
    ∙ ap (λ k. if_below k c.args.range.now.end) (c.later-key.ensures ∙ ap (λ k. later k c.as_slice-begin.result.now) begin)
    ∙ held_there c.args.noted.now c.args.range.now c.as_slice-begin.result.now c.pieces_passed-place.result one c.requires c.as_slice-begin.ensures.same c.pieces_passed-place.ensures c.if-place-noted.true c.index-noted-place.is

pub returns-else-place-noted : goal.returns-else-place-noted
returns-else-place-noted c = held_none c.args.noted.now c.args.range.now c.as_slice-begin.result.now c.pieces_passed-place.result c.requires c.as_slice-begin.ensures.same c.pieces_passed-place.ensures c.if-place-noted.false
