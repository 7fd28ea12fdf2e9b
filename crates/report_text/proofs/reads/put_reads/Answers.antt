use Rattle.report_text.proofs.Nothing.{nothing_found}
use Rattle.report_text.proofs.reads.put_reads.Goals as goal

pub returns-then-is_empty : goal.returns-then-is_empty
returns-then-is_empty c = nothing_found c.args.out.now c.args.ops.now c.args.found.now c.is_empty.result c.is_empty.ensures c.if-is_empty.true
