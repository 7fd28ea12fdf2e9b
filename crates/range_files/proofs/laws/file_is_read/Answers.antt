use Rattle.range_files.proofs.Files.{file_is_read}
use Rattle.range_files.proofs.laws.file_is_read.Goals as goal

pub returns : goal.returns
returns c = file_is_read
