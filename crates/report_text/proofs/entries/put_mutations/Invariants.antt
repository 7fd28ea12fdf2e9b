use Rattle.std.proofs.Common.{◌≡◌, ◌++◌, take}
use Rattle.std.specs.List.{flat_map}
use Rattle.report_text.specs.Entries.{mutation_line}
use Rattle.report_text.proofs.entries.put_mutations.Given as goal

abbrev pub invariant-loop-mutation : goal.invariant-loop-mutation
invariant-loop-mutation l = l.out ≡ l.initial.out ++ flat_map mutation_line (take l.mutation-index l.mutations)
