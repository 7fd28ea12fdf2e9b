use Rattle.database.proofs.Logged.{clip_spelled}
use Rattle.database.proofs.logging.put_one.Goals as goal

pub put_muts-requires-clause-spelled : goal.put_muts-requires-clause-spelled
put_muts-requires-clause-spelled c = clip_spelled c.args.log.now.ranges c.args.entry.now.muts _ c.in_ok-muts.muts c.in_ok-muts.ensures c.as_slice.ensures c.requires.few
