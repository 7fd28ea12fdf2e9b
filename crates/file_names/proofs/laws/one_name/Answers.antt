use Rattle.file_names.proofs.Names.{name_once}
use Rattle.file_names.proofs.laws.one_name.Goals as goal

pub returns : goal.returns
returns c = name_once
