use Rattle.expire_core.proofs.Honesty.{honest_law}
use Rattle.expire_core.proofs.laws.honest_law.Goals as goal

pub returns : goal.returns
returns c = honest_law
