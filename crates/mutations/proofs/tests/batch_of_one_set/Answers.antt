use Rattle.std.proofs.Common.{[], ◌∷◌, arith}
use Rattle.mutations.specs.declared.mutation.Mutation.{Mutation}
use Rattle.mutations.specs.declared.mutation.Mutation.TheVariants.{Set}
use Rattle.mutations.specs.Spelling.{HasSpelling}
use Rattle.mutations.proofs.Lengths.{length_one, length-mutation}
use Rattle.mutations.proofs.tests.batch_of_one_set.Goals as goal

one_set : HasSpelling (Set (97 ∷ []) (49 ∷ []) ∷ [])
one_set =
    let m : Mutation = Set (97 ∷ []) (49 ∷ []) in
    record { few = omega (arith, length_one m, length-mutation m); forward = (tt, tt) }

pub encode_batch-requires : goal.encode_batch-requires
encode_batch-requires g c = rw c.in_ok-muts.ensures one_set
