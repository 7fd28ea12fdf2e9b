use Rattle.expire_core.proofs.Deleting.{raise_law}
use Rattle.expire_core.proofs.laws.raise_law.Goals as goal

pub returns : goal.returns
returns c = raise_law
