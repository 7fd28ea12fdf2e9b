use Rattle.std.proofs.Common.{arith, ◌∙◌}
use Rattle.workload_text.specs.inner.Seen.{sofar}
use Rattle.workload_text.proofs.Running.{one_line}
use Rattle.workload_text.proofs.Ready.{bytes_ready}
use Rattle.workload_text.proofs.reading.read_lines.Goals as goal

pub lines-preserved : goal.lines-preserved
lines-preserved c = record {
  few = omega (arith, c.first_line.ensures.shorter, c.lines.invariant.few);
  ready = bytes_ready c.args.run (sofar c.lines.reader) (sofar c.take_line.new.reader) c.first_line.result.0.now c.lines.invariant.ready c.in_default.ensures;
  same = c.lines.invariant.same ∙ one_line c.args.run c.lines.number (sofar c.lines.reader) (sofar c.take_line.new.reader) c.first_line.result.0.now _ _ c.first_line.ensures.line c.in_default.ensures;
}
