use Rattle.mutations.proofs.Logs.{logged_law}
use Rattle.mutations.proofs.laws.logged_law.Goals as goal

pub returns : goal.returns
returns c = logged_law
