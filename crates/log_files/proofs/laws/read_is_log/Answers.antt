use Rattle.log_files.proofs.Files.{read_is_log}
use Rattle.log_files.proofs.laws.read_is_log.Goals as goal

pub returns : goal.returns
returns c = read_is_log
