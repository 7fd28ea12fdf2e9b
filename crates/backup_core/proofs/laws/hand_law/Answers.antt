use Rattle.backup_core.proofs.Hands.{hand_law}
use Rattle.backup_core.proofs.laws.hand_law.Goals as goal

pub returns : goal.returns
returns c = hand_law
