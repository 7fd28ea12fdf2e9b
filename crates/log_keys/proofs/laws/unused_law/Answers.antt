use Rattle.log_keys.proofs.Joins.{unused}
use Rattle.log_keys.proofs.laws.unused_law.Goals as goal

pub returns : goal.returns
returns c = unused
