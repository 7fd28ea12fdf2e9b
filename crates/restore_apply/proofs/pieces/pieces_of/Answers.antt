use Rattle.std.proofs.Common.{◌<◌, length, sym, ap, ◌∙◌, subst, rules, arith, ◌++◌, [], ◌∷◌}
use Rattle.std.specs.List.{AllByRecursion}
use Rattle.restore_apply.specs.Loaded.{LoadedFile}
use Rattle.restore_apply.specs.Overlaps.{At}
use Rattle.restore_apply.specs.inner.Pieces.{pieces_at}
use Rattle.restore_apply.proofs.Lines.{pieces_are, places_within, piece_next, pieces_end}
use Rattle.restore_apply.proofs.pieces.pieces_of.Goals as goal

pub loop-at-init : goal.loop-at-init
loop-at-init c =
    let gives = c.into_iter-at-iterator.ensures.into_iter_gives.0 in
    record {
      same = ap (λ xs. xs ++ pieces_at c.args.files.now c.into_iter-at-iterator.result.rest.items) c.new-pieces.ensures.items ∙ ap (pieces_at c.args.files.now) gives;
      places = subst (AllByRecursion (λ (at : At). at.place < length c.args.files.now)) (sym (gives ∙ c.requires.order)) (places_within c.args.files.now);
      whole = search rules;
    }

pub bounds-files-at : goal.bounds-files-at
bounds-files-at c = (subst (AllByRecursion (λ (at : At). at.place < length c.args.files.now)) c.in-Some.ensures.steps.0 c.loop-at.invariant.places).0

pub loop-at-preserved : goal.loop-at-preserved
loop-at-preserved c = let within = (subst (AllByRecursion (λ (at : At). at.place < length c.args.files.now)) c.in-Some.ensures.steps.0 c.loop-at.invariant.places).0 in record {
  same = piece_next c.args.files.now c.in-Some.at c.index-files-at.result c.loop-at.at-iterator.rest.items c.next.new.self.rest.items c.loop-at.pieces.items c.push.new.self.items (pieces_at c.args.files.now c.args.order.items) c.in-Some.ensures.steps.0 (sym c.is_backwards.ensures ∙ c.if-is_backwards.false) within c.index-files-at.is c.loop-at.invariant.same (c.in_ok-push.ensures.items ∙ ap (λ (f : LoadedFile). c.loop-at.pieces.items ++ record { version = f.version; range = c.in-Some.at.range } ∷ []) (sym c.index-files-at.is));
  places = (subst (AllByRecursion (λ (at : At). at.place < length c.args.files.now)) c.in-Some.ensures.steps.0 c.loop-at.invariant.places).1;
  whole = let one = ap length c.in-Some.ensures.steps.0 in grind (arith, one, c.loop-at.invariant.whole, c.in-Some.ensures.steps);
}

pub returns : goal.returns
returns c = pieces_are c.args.files.now c.args.order.items c.loop-at.pieces.items c.requires.order c.requires.apart (pieces_end c.args.files.now c.loop-at.at-iterator.rest.items c.loop-at.pieces.items (pieces_at c.args.files.now c.args.order.items) c.loop-at.at-iterator.rest.len c.loop-at.invariant.whole c.in-None.ensures.steps.0 c.loop-at.invariant.same)
