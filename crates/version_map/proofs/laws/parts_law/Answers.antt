use Rattle.version_map.proofs.Parts.{parts_law}
use Rattle.version_map.proofs.laws.parts_law.Goals as goal

pub returns : goal.returns
returns c = parts_law
