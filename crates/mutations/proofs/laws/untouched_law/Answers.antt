use Rattle.mutations.proofs.Clips.{untouched}
use Rattle.mutations.proofs.laws.untouched_law.Goals as goal

pub returns : goal.returns
returns c = untouched
