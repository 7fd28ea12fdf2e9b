use Rattle.std.proofs.Common.{◌≡◌, drop}
use Rattle.task_futures.specs.Futures.{falls}
use Rattle.task_futures.proofs.part.falls.Given as goal

abbrev pub invariant-loop-part : goal.invariant-loop-part
invariant-loop-part l = falls (drop l.part-index l.pending) l.number l.block ≡ falls l.pending l.number l.block
