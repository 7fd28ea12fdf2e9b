use Rattle.std.proofs.Common.{◌≡◌, ◌<◌, ◌^◌, min, drop}
use Rattle.restore_apply.specs.inner.Pieces.{oldest}
use Rattle.restore_apply.proofs.pieces.oldest.Given as goal

abbrev pub invariant-loop-piece : goal.invariant-loop-piece
invariant-loop-piece l = record {
  same : min l.oldest (oldest (drop l.piece-index l.pieces)) ≡ oldest l.pieces;
  small : l.oldest < 2 ^ 64;
}
