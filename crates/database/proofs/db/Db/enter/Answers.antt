use Rattle.mutations.specs.Transactions.{writes_of}
use Rattle.database.specs.Commits.{scene_of}
use Rattle.database.proofs.Committing.{commit_law, loggable}
use Rattle.database.proofs.db.Db.enter.Goals as goal

pub put-requires-clause-logged : goal.put-requires-clause-logged
put-requires-clause-logged c =
    loggable c.in_ok-muts.muts (writes_of c.args.tx.now.ops.now) c.args.self.now.logs c.in_ok-muts.ensures
    (commit_law (scene_of c.args.self.now c.args.versions.now) c.args.tx.now.read c.args.tx.now.ops.now c.args.version c.requires.checked).logged
