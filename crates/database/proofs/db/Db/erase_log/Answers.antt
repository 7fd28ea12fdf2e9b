use Rattle.std.proofs.Common.{ap, ◌∙◌, arith}
use Rattle.database.specs.Logs.{with_erased}
use Rattle.database.proofs.InStep.{kept_erased, written_back}
use Rattle.database.proofs.db.Db.erase_log.Goals as goal

pub invariant_of-self : goal.invariant_of-self
invariant_of-self c =
    let old = c.self.inside in
    kept_erased c.erase_join_law.ensures old.profile.block old.history old.lock old.logs.items _ old.keys c.erase.new.self old.store c.args.job c.args.below
    (written_back c.args.job c.args.below old.logs.items c.erase_log.new.logs old.logs.len (omega (arith, old.logs.ok.0)) (c.erase_log.ensures ∙ ap (with_erased c.args.job c.args.below) c.deref_mut.ensures.value)) c.erase.ensures c.self.invariant
