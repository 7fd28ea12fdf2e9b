use Rattle.database.proofs.Logged.{batch_few}
use Rattle.database.proofs.logging.put_muts.Goals as goal

pub put_batch-requires-clause-few : goal.put_batch-requires-clause-few
put_batch-requires-clause-few c = batch_few c.args.muts.now c.in_ok-batch.batch _ c.args.part c.as_slice.ensures.same c.in_ok-batch.ensures c.requires.spelled c.requires.part
