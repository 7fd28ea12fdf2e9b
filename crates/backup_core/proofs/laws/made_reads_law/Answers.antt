use Rattle.backup_core.proofs.FileReads.{made_reads_law}
use Rattle.backup_core.proofs.laws.made_reads_law.Goals as goal

pub returns : goal.returns
returns c = made_reads_law c.contents_law.ensures
