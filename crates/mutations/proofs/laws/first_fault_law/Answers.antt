use Rattle.mutations.proofs.Spellings.{first_fault}
use Rattle.mutations.proofs.laws.first_fault_law.Goals as goal

pub returns : goal.returns
returns c = first_fault
