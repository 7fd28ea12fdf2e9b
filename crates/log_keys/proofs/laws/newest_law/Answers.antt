use Rattle.log_keys.proofs.Joins.{newest_last}
use Rattle.log_keys.proofs.laws.newest_law.Goals as goal

pub returns : goal.returns
returns c = newest_last
