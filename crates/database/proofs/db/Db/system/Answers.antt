use Rattle.std.proofs.Common.{ap, ◌∙◌}
use Rattle.database.proofs.Committing.{entry_loggable}
use Rattle.database.proofs.db.Db.system.Goals as goal

pub put-requires-clause-logged : goal.put-requires-clause-logged
put-requires-clause-logged c =
    entry_loggable c.args.muts c.as_slice.result.now c.args.self.now.logs c.deref.result.now _ c.in_ok-version.version c.as_slice.ensures (c.deref.ensures.value ∙ ap (λ d. d.logs) c.self.view_is) c.in_ok-version.ensures.ok
