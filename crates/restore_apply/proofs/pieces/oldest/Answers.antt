use Rattle.std.proofs.Common.{ap, arith}
use Rattle.std.proofs.Math.ListN.{drop_of_length-le}
use Rattle.restore_apply.specs.inner.Pieces.{oldest}
use Rattle.restore_apply.proofs.Waiting.{oldest_small}
use Rattle.restore_apply.proofs.pieces.oldest.Goals as goal

pub loop-piece-init : goal.loop-piece-init
loop-piece-init c = let small = oldest_small c.args.pieces.now in record { same = omega (arith, small); small = omega arith }

pub returns : goal.returns
returns c =
    let end = ap oldest (drop_of_length-le c.args.pieces.now c.loop-piece-test.false) in
    omega (arith, end, c.loop-piece.invariant.same, c.loop-piece.invariant.small)
