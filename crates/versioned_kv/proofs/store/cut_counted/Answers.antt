use Rattle.std.proofs.Common.{ap, ◌∙◌, subst}
use Rattle.fb_bytes.specs.Bytes.{Bytes}
use Rattle.versioned_kv.specs.Edits.{without_rows}
use Rattle.versioned_kv.specs.inner.Edits.{changed_at}
use Rattle.versioned_kv.specs.inner.Queued.{AreTouchesBelow}
use Rattle.versioned_kv.proofs.Queues.{cut_key, cut_done}
use Rattle.versioned_kv.proofs.store.cut_counted.Goals as goal

pub loop-key-preserved-in-Some : goal.loop-key-preserved-in-Some
loop-key-preserved-in-Some g c = cut_key c.args.version c.in-Some.key c.args.chains.now c.args.queue.now c.loop-key.chains c.cut.new.self c.loop-key.queue c.pop_newest.new.self c.loop-key.invariant c.in-Some.ensures (c.cut.ensures ∙ ap (λ (key : Bytes). changed_at (without_rows c.args.version) key c.loop-key.chains) c.as_slice.ensures.same)

pub loop-key-preserved-in-Some-2 : goal.loop-key-preserved-in-Some-2
loop-key-preserved-in-Some-2 g c = cut_key c.args.version c.in-Some.key c.args.chains.now c.args.queue.now c.loop-key.chains c.cut.new.self c.loop-key.queue c.pop_newest.new.self c.loop-key.invariant c.in-Some.ensures (c.cut.ensures ∙ ap (λ (key : Bytes). changed_at (without_rows c.args.version) key c.loop-key.chains) c.as_slice.ensures.same)

pub loop-key-preserved : goal.loop-key-preserved
loop-key-preserved g c = cut_key c.args.version c.in-Some.key c.args.chains.now c.args.queue.now c.loop-key.chains c.cut.new.self c.loop-key.queue c.pop_newest.new.self c.loop-key.invariant c.in-Some.ensures (c.cut.ensures ∙ ap (λ (key : Bytes). changed_at (without_rows c.args.version) key c.loop-key.chains) c.as_slice.ensures.same)

pub returns-clause-chains : goal.returns-clause-chains
returns-clause-chains g c = cut_done c.args.version c.args.chains.now c.args.queue.now c.loop-key.chains c.loop-key.queue c.loop-key.invariant (subst (AreTouchesBelow c.args.version) c.in_default.ensures.0 c.in_default.ensures.1)
