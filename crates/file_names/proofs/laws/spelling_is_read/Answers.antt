use Rattle.file_names.proofs.Names.{spelled_name}
use Rattle.file_names.proofs.laws.spelling_is_read.Goals as goal

pub returns : goal.returns
returns c = spelled_name
