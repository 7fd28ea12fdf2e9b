use Rattle.std.proofs.Common.{List, sym, subst}
use Rattle.versioned_kv.specs.inner.Queued.{Touch, IsNoted}
use Rattle.versioned_kv.proofs.Queues.{key_noted, noted_one}
use Rattle.versioned_kv.proofs.chain.Chain.clear.Goals as goal

pub returns-clause-noted : goal.returns-clause-noted
returns-clause-noted g c = λ h.
    let key = c.args.self.now.key in
    (key_noted c.args.version c.note.new.self key c.put.new.self (subst (λ (queue : List Touch). IsNoted queue c.args.version key) (sym c.in_ok-note.ensures.ok) (noted_one c.args.version key c.args.queue.now)), tt)
