use Rattle.std.proofs.Common.{refl, sym, subst}
use Rattle.std.proofs.lemmas.List.{take_rest}
use Rattle.restore_apply.specs.inner.Pieces.{AreLine}
use Rattle.restore_apply.proofs.Among.{among_all, line_drop}
use Rattle.restore_apply.proofs.pieces.among.Goals as goal

pub begun-requires : goal.begun-requires
begun-requires c = subst AreLine (sym (take_rest c.args.pieces.now c.passed.result)) (line_drop c.passed.result c.args.pieces.now c.requires)

pub returns : goal.returns
returns c = λ version key held. among_all version c.args.begin.now c.args.end.now key c.args.pieces.now _ _ c.passed.result c.begun.result c.requires held c.passed.ensures.count (take_rest c.args.pieces.now c.passed.result) c.begun.ensures.count refl
