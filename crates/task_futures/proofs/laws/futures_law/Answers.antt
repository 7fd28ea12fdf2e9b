use Rattle.task_futures.proofs.Keeping.{all_laws}
use Rattle.task_futures.proofs.laws.futures_law.Goals as goal

pub returns : goal.returns
returns c = all_laws
