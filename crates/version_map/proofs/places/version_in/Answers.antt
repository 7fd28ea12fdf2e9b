use Rattle.std.proofs.Common.{Some, None, cond, sym, ap, ◌∙◌}
use Rattle.version_map.proofs.Halves.{none_found, found_at}
use Rattle.version_map.proofs.places.version_in.Goals as goal

pub returns-then-place-pieces : goal.returns-then-place-pieces
returns-then-place-pieces c = none_found c.args.pieces.now c.args.key.now c.passed-place.result c.requires c.passed-place.ensures.count c.if-place-pieces.true

pub returns-then-contains : goal.returns-then-contains
returns-then-contains c =
    sym (ap (λ b. cond b (Some c.index-pieces-place.result.version) None) c.if-contains.true)
    ∙ found_at c.args.pieces.now c.args.key.now c.passed-place.result c.index-pieces-place.result c.contains.result c.requires c.passed-place.ensures.count c.if-place-pieces.false c.index-pieces-place.is c.contains.ensures

pub returns-else-contains : goal.returns-else-contains
returns-else-contains c =
    sym (ap (λ b. cond b (Some c.index-pieces-place.result.version) None) c.if-contains.false)
    ∙ found_at c.args.pieces.now c.args.key.now c.passed-place.result c.index-pieces-place.result c.contains.result c.requires c.passed-place.ensures.count c.if-place-pieces.false c.index-pieces-place.is c.contains.ensures
