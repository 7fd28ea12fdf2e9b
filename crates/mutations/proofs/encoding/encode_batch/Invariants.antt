use Rattle.std.proofs.Common.{◌≡◌, ◌++◌, length, take}
use Rattle.mutations.specs.Spelling.{u32_bytes, u64_bytes, protocol, mutations_spelling}
use Rattle.mutations.proofs.encoding.encode_batch.Given as goal

abbrev pub invariant-loop-mutation : goal.invariant-loop-mutation
invariant-loop-mutation l = l.batch ≡ u64_bytes protocol ++ u32_bytes (length (mutations_spelling l.muts)) ++ mutations_spelling (take l.mutation-index l.muts)
