use Rattle.std.proofs.Common.{ap, ◌∙◌, subst}
use Rattle.fb_bytes.specs.Bytes.{Bytes}
use Rattle.versioned_kv.specs.inner.Edits.{changed_at}
use Rattle.versioned_kv.specs.Forgotten.{forgotten}
use Rattle.versioned_kv.specs.inner.Queued.{AreTouchesPast}
use Rattle.versioned_kv.proofs.Queues.{forget_key, forget_done}
use Rattle.versioned_kv.proofs.store.forget_counted.Goals as goal

pub loop-key-preserved-in-Some : goal.loop-key-preserved-in-Some
loop-key-preserved-in-Some g c = forget_key c.args.oldest c.in-Some.ensures.0 c.in-Some.key c.args.chains.now c.args.queue.now c.loop-key.chains c.forget.new.self c.loop-key.queue c.pop_oldest.new.self c.in-Some.ensures.1 c.loop-key.invariant c.in-Some.ensures.2 (c.forget.ensures ∙ ap (λ (key : Bytes). changed_at (forgotten c.args.oldest) key c.loop-key.chains) c.as_slice.ensures.same)

pub loop-key-preserved-in-Some-2 : goal.loop-key-preserved-in-Some-2
loop-key-preserved-in-Some-2 g c = forget_key c.args.oldest c.in-Some.ensures.0 c.in-Some.key c.args.chains.now c.args.queue.now c.loop-key.chains c.forget.new.self c.loop-key.queue c.pop_oldest.new.self c.in-Some.ensures.1 c.loop-key.invariant c.in-Some.ensures.2 (c.forget.ensures ∙ ap (λ (key : Bytes). changed_at (forgotten c.args.oldest) key c.loop-key.chains) c.as_slice.ensures.same)

pub loop-key-preserved : goal.loop-key-preserved
loop-key-preserved g c = forget_key c.args.oldest c.in-Some.ensures.0 c.in-Some.key c.args.chains.now c.args.queue.now c.loop-key.chains c.forget.new.self c.loop-key.queue c.pop_oldest.new.self c.in-Some.ensures.1 c.loop-key.invariant c.in-Some.ensures.2 (c.forget.ensures ∙ ap (λ (key : Bytes). changed_at (forgotten c.args.oldest) key c.loop-key.chains) c.as_slice.ensures.same)

pub returns-clause-chains : goal.returns-clause-chains
returns-clause-chains g c = forget_done c.args.oldest c.args.chains.now c.args.queue.now c.loop-key.chains c.loop-key.queue c.loop-key.invariant (subst (AreTouchesPast c.args.oldest) c.in_default.ensures.0 c.in_default.ensures.1)
