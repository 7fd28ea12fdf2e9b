use Rattle.std.proofs.Common.{◌∙◌}
use Rattle.workload_text.proofs.Places.{first_place}
use Rattle.workload_text.proofs.pieces.line_len.Goals as goal

pub returns-clause-same : goal.returns-clause-same
returns-clause-same c =
    c.unwrap_or.ensures ∙ first_place 10 c.args.text.now c.memchr.result c.memchr.ensures
