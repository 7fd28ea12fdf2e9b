use Rattle.database.proofs.Serial.{serial_law}
use Rattle.database.proofs.laws.serial_law.Goals as goal

pub returns : goal.returns
returns c = serial_law
