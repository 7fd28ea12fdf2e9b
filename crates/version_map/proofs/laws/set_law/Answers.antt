use Rattle.version_map.proofs.Sets.{set_law}
use Rattle.version_map.proofs.laws.set_law.Goals as goal

pub returns : goal.returns
returns c = set_law
