use Rattle.std.proofs.Common.{◌≡◌, ◌+◌, ◌≤◌, length}
use Rattle.workload_text.specs.Texts.{lines_of}
use Rattle.workload_text.specs.Sofar.{at_start, with_lines}
use Rattle.workload_text.specs.inner.Ready.{IsReady}
use Rattle.workload_text.specs.inner.Seen.{sofar}
use Rattle.workload_text.proofs.reading.read_lines.Given as goal

abbrev pub invariant-lines : goal.invariant-lines
invariant-lines l = record {
  few : l.number + length l.rest ≤ length l.text + 1;
  ready : IsReady (sofar l.reader);
  same : with_lines l.run 1 at_start (lines_of l.text) ≡ with_lines l.run l.number (sofar l.reader) (lines_of l.rest);
}

abbrev pub decreases-lines : goal.decreases-lines
decreases-lines l = length l.rest
