use Rattle.std.proofs.Common.{ap}
use Rattle.versioned_kv.specs.Applied.{Contents}
use Rattle.database.proofs.InStep.{kept_refused, kept_made}
use Rattle.database.proofs.db.Db.put.Goals as goal

pub invariant_of-self : goal.invariant_of-self
invariant_of-self c =
    let old = c.self.inside in
    kept_refused old.profile.block old.history c.put_kept.new.history old.lock old.keys c.put_kept.new.keys old.store c.put_kept.new.store c.deref.result.now old.logs.items
    c.deref.ensures.value c.in_err-put_kept.ensures.err c.put_kept.ensures.kept c.self.invariant

pub invariant_of-self-2 : goal.invariant_of-self-2
invariant_of-self-2 c =
    let old = c.self.inside in
    kept_made old.profile.block old.history c.put_kept.new.history old.lock c.lock_after-lock.result old.keys c.put_kept.new.keys old.store c.put_kept.new.store c.forget.new.self c.deref.result.now old.logs.items c.args.entry
    c.deref.ensures.value c.in_ok-put_kept.ensures.ok c.lock_after-lock.ensures c.put_kept.ensures.kept c.forget.ensures.holds (ap (λ (s : Contents). s.limit) c.forget.ensures.left) c.self.invariant
