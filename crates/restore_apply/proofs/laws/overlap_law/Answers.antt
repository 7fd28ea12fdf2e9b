use Rattle.restore_apply.proofs.Apart as apart
use Rattle.restore_apply.proofs.laws.overlap_law.Goals as goal

pub returns : goal.returns
returns c = apart.overlap_law
