use Rattle.std.proofs.Common.{◌≡◌, ◌++◌, drop}
use Rattle.report_text.specs.Outcomes.{reads_lines}
use Rattle.report_text.proofs.reads.put_reads.Given as goal

abbrev pub invariant-loop-op : goal.invariant-loop-op
invariant-loop-op l = l.out ++ reads_lines (drop l.op-index l.ops) l.rest ≡ l.initial.out ++ reads_lines l.ops l.found
