use Rattle.std.proofs.Common.{◌≡◌, length}
use Rattle.workload_text.specs.Texts.{words_of}
use Rattle.workload_text.specs.Words.{are_paired}
use Rattle.workload_text.proofs.counts.are_paired.Given as goal

abbrev pub invariant-pairs : goal.invariant-pairs
invariant-pairs l = are_paired (words_of l.words) ≡ are_paired (words_of l.rest)

abbrev pub decreases-pairs : goal.decreases-pairs
decreases-pairs l = length l.rest
