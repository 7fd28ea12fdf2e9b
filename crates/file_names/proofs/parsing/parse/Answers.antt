use Rattle.std.proofs.Common.{◌∙◌}
use Rattle.file_names.proofs.Names.{name_found, name_again}
use Rattle.file_names.proofs.parsing.parse.Goals as goal

pub returns-clause-found : goal.returns-clause-found
returns-clause-found c = rw c.read.ensures (λ other. name_found c.args.name.now other)

pub returns-clause-only : goal.returns-clause-only
returns-clause-only c = λ n e. c.read.ensures ∙ name_again c.args.name.now n e
