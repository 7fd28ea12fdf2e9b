use Rattle.task_bucket.proofs.Weighing.{all_laws}
use Rattle.task_bucket.proofs.laws.sums_law.Goals as goal

pub returns : goal.returns
returns c = all_laws
