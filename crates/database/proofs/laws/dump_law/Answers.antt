use Rattle.database.proofs.Dumping as dumping
use Rattle.database.proofs.laws.dump_law.Goals as goal

pub returns : goal.returns
returns c = dumping.dump_law
