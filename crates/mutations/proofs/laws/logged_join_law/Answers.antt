use Rattle.mutations.proofs.Logs.{logged_join}
use Rattle.mutations.proofs.laws.logged_join_law.Goals as goal

pub returns : goal.returns
returns c = logged_join
