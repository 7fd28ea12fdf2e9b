use Rattle.std.proofs.Common.{◌≡◌, ◌+◌, ◌≤◌, length}
use Rattle.workload_text.specs.Texts.{lines_of}
use Rattle.fb_cli.specs.Later.{first_later}
use Rattle.fb_cli.proofs.later.first_later.Given as goal

abbrev pub invariant-lines : goal.invariant-lines
invariant-lines l = record {
  few : l.number + length l.rest ≤ length l.text + 1;
  same : first_later 1 (lines_of l.text) ≡ first_later l.number (lines_of l.rest);
}

abbrev pub decreases-lines : goal.decreases-lines
decreases-lines l = length l.rest
