use Rattle.log_files.proofs.Files.{one_log}
use Rattle.log_files.proofs.laws.one_log.Goals as goal

pub returns : goal.returns
returns c = one_log
