use Rattle.std.proofs.Common.{◌≡◌, ◌^◌, ◌≤◌, List, [], ◌∷◌, ◌++◌, length, sym, ap, subst, ◌∙◌, arith}
use Rattle.fb_bytes.specs.Bytes.{Bytes}
use Rattle.mutations.specs.declared.Mutation.{Mutation}
use Rattle.mutations.specs.declared.mutation.Mutation.TheVariants.{Set}
use Rattle.mutations.specs.declared.Batch.{Batch}
use Rattle.mutations.specs.Spelling.{HasSpelling}
use Rattle.mutations.proofs.Lengths.{length_one, length-mutation}
use Rattle.log_files.specs.Writing.{AreLogged}
use Rattle.log_files.proofs.tests.one_set.Goals as goal

set_spelled : (key value : Bytes) → length key ≡ 1 → length value ≤ 2 ^ 20 → HasSpelling (Set key value ∷ [])
set_spelled key value k v = record { few = omega (arith, length_one (Set key value), length-mutation (Set key value)); forward = (tt, tt) }

set_logged : (key value : Bytes) (muts : List Mutation) (batches : List Batch) → length key ≡ 1 → length value ≤ 2 ^ 20 → muts ≡ Set key value ∷ [] → batches ≡ record { version = 20; muts = muts } ∷ [] → AreLogged 10 21 batches
set_logged key value muts batches k v m b = subst (AreLogged 10 21) (sym b) (omega arith, omega arith, subst HasSpelling (sym m) (set_spelled key value k v), tt)

pub returns-clause-logged : goal.returns-clause-logged
returns-clause-logged c =
    set_logged c.in_ok-from_slice.field-0 c.in_ok-from_slice-2.field-0 c.push.new.self c.push-2.new.self
    (ap length c.in_ok-from_slice.ensures) (omega (arith, ap length c.in_ok-from_slice-2.ensures, c.requires))
    (c.in_ok-push.ensures.ok ∙ ap (λ (x : List Mutation). x ++ Set c.in_ok-from_slice.field-0 c.in_ok-from_slice-2.field-0 ∷ []) c.new-muts.ensures)
    (c.in_ok-push-2.ensures.ok ∙ ap (λ (x : List Batch). x ++ record { version = 20; muts = c.push.new.self } ∷ []) c.new-batches.ensures)
