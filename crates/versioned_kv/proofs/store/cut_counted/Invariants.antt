use Rattle.std.proofs.Common.{length}
use Rattle.versioned_kv.proofs.Queues.{Cutting}
use Rattle.versioned_kv.proofs.store.cut_counted.Given as goal

abbrev pub invariant-loop-key : goal.invariant-loop-key
invariant-loop-key g l = Cutting l.version l.initial.chains l.initial.queue l.chains l.queue

abbrev pub decreases-loop-key : goal.decreases-loop-key
decreases-loop-key g l = length l.queue
