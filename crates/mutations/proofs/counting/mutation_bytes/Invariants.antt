use Rattle.std.proofs.Common.{◌≡◌, ◌*◌, ◌^◌, ◌≤◌, length, take}
use Rattle.mutations.specs.Spelling.{mutations_spelling}
use Rattle.mutations.proofs.counting.mutation_bytes.Given as goal

abbrev pub invariant-loop-mutation : goal.invariant-loop-mutation
invariant-loop-mutation l = record {
  sum : l.total ≡ length (mutations_spelling (take l.mutation-index l.muts));
  small : l.total ≤ l.mutation-index * 2 ^ 66;
}
