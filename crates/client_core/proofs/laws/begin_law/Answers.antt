use Rattle.client_core.proofs.Relied as relied
use Rattle.client_core.proofs.laws.begin_law.Goals as goal

pub returns : goal.returns
returns c = relied.begin_law
