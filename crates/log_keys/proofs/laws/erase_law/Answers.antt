use Rattle.log_keys.proofs.LogLaws.{erase_at}
use Rattle.log_keys.proofs.laws.erase_law.Goals as goal

pub returns : goal.returns
returns c = erase_at
