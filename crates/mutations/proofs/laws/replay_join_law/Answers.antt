use Rattle.mutations.proofs.States.{replay_join}
use Rattle.mutations.proofs.laws.replay_join_law.Goals as goal

pub returns : goal.returns
returns c = replay_join
