use Rattle.database.proofs.InStep.{kept_taken}
use Rattle.database.proofs.db.Db.retract.Goals as goal

pub invariant_of-self : goal.invariant_of-self
invariant_of-self c =
    let old = c.self.inside in
    kept_taken old.profile.block c.take_kept.new.history c.as_slice.result.now c.lock_in-self-inside.result c.take_kept.new.keys c.take_kept.new.store old.logs.items
    c.as_slice.ensures c.lock_in-self-inside.ensures (c.take_kept.ensures.kept old.profile.block old.lock old.logs.items c.self.invariant)
