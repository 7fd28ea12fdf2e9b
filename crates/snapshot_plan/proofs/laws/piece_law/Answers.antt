use Rattle.snapshot_plan.proofs.Walking.{piece_law}
use Rattle.snapshot_plan.proofs.laws.piece_law.Goals as goal

pub returns : goal.returns
returns c = piece_law
