use Rattle.mutations.proofs.States.{state_law}
use Rattle.mutations.proofs.laws.state_law.Goals as goal

pub returns : goal.returns
returns c = state_law
