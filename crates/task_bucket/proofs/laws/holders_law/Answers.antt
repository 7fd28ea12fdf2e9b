use Rattle.task_bucket.proofs.Holders.{holders_laws}
use Rattle.task_bucket.proofs.laws.holders_law.Goals as goal

pub returns : goal.returns
returns c = holders_laws
