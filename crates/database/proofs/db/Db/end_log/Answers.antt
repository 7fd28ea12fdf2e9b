use Rattle.database.proofs.InStep.{kept_ended}
use Rattle.database.proofs.db.Db.end_log.Goals as goal

pub invariant_of-self : goal.invariant_of-self
invariant_of-self c =
    let old = c.self.inside in
    kept_ended c.erase_join_law.ensures old.profile.block old.history old.lock old.logs.items c.remove_log.new.logs.items old.keys c.erase.new.self old.store c.args.job _
    c.remove_log.ensures c.erase.ensures c.self.invariant
