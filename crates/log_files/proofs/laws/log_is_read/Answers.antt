use Rattle.log_files.proofs.Files.{log_is_read}
use Rattle.log_files.proofs.laws.log_is_read.Goals as goal

pub returns : goal.returns
returns c = log_is_read
