use Rattle.database.proofs.Causes.{large_law}
use Rattle.database.proofs.laws.large_law.Goals as goal

pub returns : goal.returns
returns c = large_law
