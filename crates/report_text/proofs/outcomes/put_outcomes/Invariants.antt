use Rattle.std.proofs.Common.{◌≡◌, ◌++◌, take}
use Rattle.report_text.specs.Outcomes.{client_lines}
use Rattle.report_text.proofs.outcomes.put_outcomes.Given as goal

abbrev pub invariant-loop-index : goal.invariant-loop-index
invariant-loop-index l = l.out ≡ l.initial.out ++ client_lines 1 (take l.index l.outcomes)
