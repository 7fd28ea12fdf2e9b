use Rattle.mutations.proofs.Logs.{logged_append}
use Rattle.mutations.proofs.laws.logged_append_law.Goals as goal

pub returns : goal.returns
returns c = logged_append
