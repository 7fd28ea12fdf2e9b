use Rattle.mutations.proofs.Logs.{logged_replay}
use Rattle.mutations.proofs.laws.logged_replay_law.Goals as goal

pub returns : goal.returns
returns c = logged_replay
