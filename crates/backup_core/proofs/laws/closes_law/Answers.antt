use Rattle.backup_core.proofs.Takes.{closes_law}
use Rattle.backup_core.proofs.laws.closes_law.Goals as goal

pub returns : goal.returns
returns c = closes_law
