use Rattle.container_view.proofs.Lookups.{file_law}
use Rattle.container_view.proofs.laws.file_law.Goals as goal

pub returns : goal.returns
returns c = file_law
