use Rattle.database.proofs.Causes.{cause_law}
use Rattle.database.proofs.laws.cause_law.Goals as goal

pub returns : goal.returns
returns c = cause_law
