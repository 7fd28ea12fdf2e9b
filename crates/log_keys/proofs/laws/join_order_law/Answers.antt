use Rattle.log_keys.proofs.LogLaws.{join_rises}
use Rattle.log_keys.proofs.laws.join_order_law.Goals as goal

pub returns : goal.returns
returns c = join_rises
