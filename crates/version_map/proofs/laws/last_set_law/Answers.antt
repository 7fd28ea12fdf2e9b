use Rattle.version_map.proofs.Sets.{last_set_law}
use Rattle.version_map.proofs.laws.last_set_law.Goals as goal

pub returns : goal.returns
returns c = last_set_law
