use Rattle.mutations.proofs.Clips.{touch_law}
use Rattle.mutations.proofs.laws.touch_law.Goals as goal

pub returns : goal.returns
returns c = touch_law
