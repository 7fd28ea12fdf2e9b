use Rattle.expire_core.proofs.Elsewhere.{elsewhere_law}
use Rattle.expire_core.proofs.laws.elsewhere_law.Goals as goal

pub returns : goal.returns
returns c = elsewhere_law
