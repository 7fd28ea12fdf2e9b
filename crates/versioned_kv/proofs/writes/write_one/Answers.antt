use Rattle.std.proofs.Common.{refl, sym, ap, ◌∙◌}
use Rattle.fb_bytes.specs.Bytes.{Bytes}
use Rattle.atomic_ops.specs.Operation.{operation}
use Rattle.mutations.specs.declared.mutation.Mutation.{Mutation}
use Rattle.mutations.specs.Effects.{effect}
use Rattle.versioned_kv.specs.Chains.{value_at}
use Rattle.versioned_kv.proofs.Places.{on_ok}
use Rattle.versioned_kv.proofs.Operations.{operation_there}
use Rattle.versioned_kv.proofs.writes.write_one.Goals as goal

pub returns-in_ok-value-in-Atomic-clause-ok : goal.returns-in_ok-value-in-Atomic-clause-ok
returns-in_ok-value-in-Atomic-clause-ok g c =
    let param = c.as_slice-in-Atomic.result.now in
    let left = c.in_ok-value-in-Atomic.ensures ∙ ap (λ (k : Bytes). operation c.in-Atomic.op (value_at c.args.chains.now k c.args.version) param c.args.limit) c.as_slice-at.ensures.same in
    on_ok c.write_row-in-Atomic.result
    (λ told key. told key
    ∙ operation_there c.args.limit c.in-Atomic.op c.in-Atomic.key c.in-Atomic.key param c.in-Atomic.param key (λ k. value_at c.args.chains.now k c.args.version) c.in_ok-value-in-Atomic.value refl c.as_slice-in-Atomic.ensures.same left
    ∙ ap (λ (m : Mutation). effect c.args.limit m key (value_at c.args.chains.now key c.args.version)) (sym c.in-Atomic.is))
    c.write_row-in-Atomic.ensures.ok
