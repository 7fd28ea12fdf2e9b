use Rattle.mutations.proofs.States.{logged_state}
use Rattle.mutations.proofs.laws.logged_state_law.Goals as goal

pub returns : goal.returns
returns c = logged_state
