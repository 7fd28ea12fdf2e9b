use Rattle.std.proofs.Common.{◌≡◌, take}
use Rattle.mutations.specs.Clipping.{all_clipped}
use Rattle.mutations.specs.Spelling.{counted_bytes}
use Rattle.mutations.proofs.counting.clipped_bytes.Given as goal

abbrev pub invariant-loop-mutation : goal.invariant-loop-mutation
invariant-loop-mutation l = l.total ≡ counted_bytes (all_clipped l.ranges (take l.mutation-index l.muts))
