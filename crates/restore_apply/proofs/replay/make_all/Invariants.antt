use Rattle.std.proofs.Common.{◌≡◌, drop}
use Rattle.fb_bytes.specs.Bytes.{Bytes}
use Rattle.restore_apply.specs.inner.Pieces.{since, is_older, effects_if}
use Rattle.restore_apply.specs.inner.Tables.{found}
use Rattle.restore_apply.proofs.replay.make_all.Given as goal

abbrev pub invariant-loop-mutation : goal.invariant-loop-mutation
invariant-loop-mutation l = (key : Bytes) → effects_if (is_older (since l.pieces key) l.batch.version) l.limit (drop l.mutation-index l.mutation-items) key (found l.table key) ≡ effects_if (is_older (since l.pieces key) l.batch.version) l.limit l.mutation-items key (found l.initial.table key)
