use Rattle.restore_read.proofs.Restores.{restore_law_from}
use Rattle.restore_read.proofs.laws.restore_law.Goals as goal

pub returns : goal.returns
returns c = restore_law_from c.overlap_law.ensures
