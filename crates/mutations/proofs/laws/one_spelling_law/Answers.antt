use Rattle.mutations.proofs.Spellings.{one_spelling}
use Rattle.mutations.proofs.laws.one_spelling_law.Goals as goal

pub returns : goal.returns
returns c = one_spelling
