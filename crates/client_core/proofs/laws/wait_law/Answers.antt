use Rattle.client_core.proofs.Relied as relied
use Rattle.client_core.proofs.laws.wait_law.Goals as goal

pub returns : goal.returns
returns c = relied.wait_law
