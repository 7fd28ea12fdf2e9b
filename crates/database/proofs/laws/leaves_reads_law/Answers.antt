use Rattle.database.proofs.Serial.{leaves_reads_law}
use Rattle.database.proofs.laws.leaves_reads_law.Goals as goal

pub returns : goal.returns
returns c = leaves_reads_law
