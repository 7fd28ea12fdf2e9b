use Rattle.log_files.proofs.Written.{written_is_log}
use Rattle.log_files.proofs.laws.written_is_log.Goals as goal

pub returns : goal.returns
returns c = written_is_log
