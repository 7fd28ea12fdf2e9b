use Rattle.expire_core.proofs.Deleting.{stays_law}
use Rattle.expire_core.proofs.laws.stays_law.Goals as goal

pub returns : goal.returns
returns c = stays_law
