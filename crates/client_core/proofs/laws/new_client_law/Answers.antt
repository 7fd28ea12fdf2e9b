use Rattle.client_core.proofs.Relied as relied
use Rattle.client_core.proofs.laws.new_client_law.Goals as goal

pub returns : goal.returns
returns c = relied.new_client_law
