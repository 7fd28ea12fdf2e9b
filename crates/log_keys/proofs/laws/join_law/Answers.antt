use Rattle.log_keys.proofs.LogLaws.{join_at}
use Rattle.log_keys.proofs.laws.join_law.Goals as goal

pub returns : goal.returns
returns c = join_at
