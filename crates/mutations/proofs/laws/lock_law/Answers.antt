use Rattle.mutations.proofs.States.{lock_law}
use Rattle.mutations.proofs.laws.lock_law.Goals as goal

pub returns : goal.returns
returns c = lock_law
