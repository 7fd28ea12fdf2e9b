use Rattle.std.proofs.Common.{◌≡◌, drop}
use Rattle.fb_bytes.specs.Bytes.{Bytes}
use Rattle.restore_apply.specs.inner.Pieces.{since, batches_since}
use Rattle.restore_apply.specs.inner.Tables.{found}
use Rattle.restore_apply.proofs.replay.replay_link.Given as goal

abbrev pub invariant-loop-batch : goal.invariant-loop-batch
invariant-loop-batch l = (key : Bytes) → batches_since (since l.pieces key) l.link (drop l.batch-index l.batch-items) l.upto key (found l.table key) ≡ batches_since (since l.pieces key) l.link l.batch-items l.upto key (found l.initial.table key)
