use Rattle.task_kinds.proofs.Working.{work_law_holds}
use Rattle.task_kinds.proofs.laws.work_law.Goals as goal

pub returns : goal.returns
returns c = work_law_holds
