use Rattle.range_files.proofs.Files.{read_is_file}
use Rattle.range_files.proofs.laws.read_is_file.Goals as goal

pub returns : goal.returns
returns c = read_is_file
