use Rattle.std.proofs.Common.{◌&&◌, nat_lt, sym, ap, ◌∙◌}
use Rattle.restore_apply.proofs.Among.{older_none, older_there}
use Rattle.restore_apply.proofs.pieces.is_older.Goals as goal

pub returns-then-place-pieces : goal.returns-then-place-pieces
returns-then-place-pieces c = older_none c.args.pieces.now c.args.key.now c.args.version c.passed-place.result c.requires c.passed-place.ensures.count c.if-place-pieces.true

pub returns-then-contains : goal.returns-then-contains
returns-then-contains c =
    sym (ap (λ t. t && nat_lt c.index-pieces-place.result.version c.args.version) (sym c.contains.ensures ∙ c.if-contains.true))
    ∙ older_there c.args.pieces.now c.args.key.now c.args.version c.passed-place.result c.index-pieces-place.result c.requires c.passed-place.ensures.count c.if-place-pieces.false c.index-pieces-place.is

pub returns-else-contains : goal.returns-else-contains
returns-else-contains c =
    c.if-contains.false
    ∙ sym (ap (λ t. t && nat_lt c.index-pieces-place.result.version c.args.version) (sym c.contains.ensures ∙ c.if-contains.false))
    ∙ older_there c.args.pieces.now c.args.key.now c.args.version c.passed-place.result c.index-pieces-place.result c.requires c.passed-place.ensures.count c.if-place-pieces.false c.index-pieces-place.is
