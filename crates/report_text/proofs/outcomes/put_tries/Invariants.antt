use Rattle.std.proofs.Common.{◌≡◌, ◌++◌, take}
use Rattle.std.specs.List.{flat_map}
use Rattle.report_text.specs.Outcomes.{try_lines}
use Rattle.report_text.proofs.outcomes.put_tries.Given as goal

abbrev pub invariant-loop-outcome : goal.invariant-loop-outcome
invariant-loop-outcome l = l.out ≡ l.initial.out ++ flat_map (try_lines l.client l.txns) (take l.outcome-index l.tries)
