use Rattle.mutations.proofs.Clips.{clip_law}
use Rattle.mutations.proofs.laws.clip_law.Goals as goal

pub returns : goal.returns
returns c = clip_law
