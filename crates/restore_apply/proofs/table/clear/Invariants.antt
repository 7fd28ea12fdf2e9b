use Rattle.std.proofs.Common.{◌≡◌, None, cond, length}
use Rattle.fb_bytes.specs.Bytes.{Bytes}
use Rattle.fb_bytes.specs.Keys.{holds}
use Rattle.mutations.specs.Effects.{range_of}
use Rattle.restore_apply.specs.inner.Tables.{found}
use Rattle.restore_apply.proofs.table.clear.Given as goal

abbrev pub invariant-loop-key : goal.invariant-loop-key
invariant-loop-key l = (key : Bytes) → cond (holds (range_of l.begin l.end) key) None (found l.table key) ≡ cond (holds (range_of l.begin l.end) key) None (found l.initial.table key)

abbrev pub decreases-loop-key : goal.decreases-loop-key
decreases-loop-key l = length l.table.entries
