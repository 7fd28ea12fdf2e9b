use Rattle.client_core.proofs.Relied as relied
use Rattle.client_core.proofs.laws.try_law.Goals as goal

pub returns : goal.returns
returns c = relied.try_law
