use Rattle.std.proofs.Common.{◌≡◌, length}
use Rattle.workload_text.specs.Texts.{words_of}
use Rattle.workload_text.specs.Lines as spec
use Rattle.workload_text.proofs.Pairs.{behind}
use Rattle.workload_text.proofs.ranges.list_of.Given as goal

abbrev pub invariant-pairs : goal.invariant-pairs
invariant-pairs l = spec.list_of (words_of l.words) ≡ behind l.list (spec.list_of (words_of l.rest))

abbrev pub decreases-pairs : goal.decreases-pairs
decreases-pairs l = length l.rest
