use Rattle.std.proofs.Common.{length}
use Rattle.versioned_kv.proofs.Queues.{Forgetting}
use Rattle.versioned_kv.proofs.store.forget_counted.Given as goal

abbrev pub invariant-loop-key : goal.invariant-loop-key
invariant-loop-key g l = Forgetting l.oldest l.initial.chains l.initial.queue l.chains l.queue

abbrev pub decreases-loop-key : goal.decreases-loop-key
decreases-loop-key g l = length l.queue
