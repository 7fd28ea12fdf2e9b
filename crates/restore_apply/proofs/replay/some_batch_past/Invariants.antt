use Rattle.std.proofs.Common.{◌≡◌, drop}
use Rattle.restore_apply.specs.inner.Pieces.{some_batch_past}
use Rattle.restore_apply.proofs.replay.some_batch_past.Given as goal

abbrev pub invariant-loop-batch : goal.invariant-loop-batch
invariant-loop-batch l = some_batch_past l.version l.link (drop l.batch-index l.batch-items) l.upto ≡ some_batch_past l.version l.link l.batch-items l.upto
