use Rattle.std.proofs.Common.{sym, ◌∙◌}
use Rattle.mutations.proofs.Lengths.{length-mutation}
use Rattle.mutations.proofs.counting.mutation_len.Goals as goal

pub returns-clause-sum : goal.returns-clause-sum
returns-clause-sum c = c.parts_len.ensures.sum ∙ rw (c.strings.ensures.first, c.strings.ensures.second) (sym (length-mutation c.args.mutation.now))
