use Rattle.std.proofs.Common.{◌≡◌, drop}
use Rattle.fb_bytes.specs.Bytes.{Bytes}
use Rattle.mutations.specs.Effects.{range_of}
use Rattle.restore_apply.specs.inner.Pieces.{cleared}
use Rattle.restore_apply.specs.inner.Tables.{found}
use Rattle.restore_apply.proofs.pieces.clear_each.Given as goal

abbrev pub invariant-loop-piece : goal.invariant-loop-piece
invariant-loop-piece l = (key : Bytes) → cleared l.version (range_of l.begin l.end) (drop l.piece-index l.pieces) key (found l.table key) ≡ cleared l.version (range_of l.begin l.end) l.pieces key (found l.initial.table key)
