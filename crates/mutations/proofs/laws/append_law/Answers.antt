use Rattle.mutations.proofs.States.{append_law}
use Rattle.mutations.proofs.laws.append_law.Goals as goal

pub returns : goal.returns
returns c = append_law
