use Rattle.std.proofs.Common.{◌∙◌, arith}
use Rattle.task_futures.proofs.Finding.{greatest_last}
use Rattle.task_futures.proofs.settling.greatest.Goals as goal

pub returns : goal.returns
returns c = c.number.ensures ∙ greatest_last c.args.futures.now _ c.index-futures-last.result c.requires (omega (arith, c.if-count-eq0.false)) c.index-futures-last.is
