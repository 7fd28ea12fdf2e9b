use Rattle.range_files.proofs.Files.{one_body}
use Rattle.range_files.proofs.laws.one_body.Goals as goal

pub returns : goal.returns
returns c = one_body
