use Rattle.log_keys.proofs.LogLaws.{retract_at}
use Rattle.log_keys.proofs.laws.retract_law.Goals as goal

pub returns : goal.returns
returns c = retract_at
