use Rattle.range_files.proofs.Written.{written_is_file}
use Rattle.range_files.proofs.laws.written_is_file.Goals as goal

pub returns : goal.returns
returns c = written_is_file
