use Rattle.container_view.proofs.Decimal.{property_law}
use Rattle.container_view.proofs.laws.property_law.Goals as goal

pub returns : goal.returns
returns c = property_law
