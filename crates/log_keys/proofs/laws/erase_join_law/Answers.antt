use Rattle.log_keys.proofs.Joins.{erase_join}
use Rattle.log_keys.proofs.laws.erase_join_law.Goals as goal

pub returns : goal.returns
returns c = erase_join
