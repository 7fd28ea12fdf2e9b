use Rattle.mutations.proofs.States.{replay_append}
use Rattle.mutations.proofs.laws.replay_append_law.Goals as goal

pub returns : goal.returns
returns c = replay_append
