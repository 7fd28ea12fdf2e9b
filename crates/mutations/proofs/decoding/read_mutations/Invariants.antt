use Rattle.std.proofs.Common.{length}
use Rattle.mutations.specs.Reading.{mutations_at}
use Rattle.mutations.proofs.Loop.{IsSoFar}
use Rattle.mutations.proofs.decoding.read_mutations.Given as goal

abbrev pub invariant-loop-rest : goal.invariant-loop-rest
invariant-loop-rest l = IsSoFar l.muts l.total l.rest (mutations_at l.total l.total l.bytes)

abbrev pub decreases-loop-rest : goal.decreases-loop-rest
decreases-loop-rest l = length l.rest
