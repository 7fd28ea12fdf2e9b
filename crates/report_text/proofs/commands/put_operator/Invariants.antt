use Rattle.std.proofs.Common.{◌≡◌, ◌+◌, ◌≤◌, ◌++◌, length}
use Rattle.report_text.specs.Commands.{operator_lines}
use Rattle.report_text.proofs.commands.put_operator.Given as goal

abbrev pub invariant-rest : goal.invariant-rest
invariant-rest l = record {
  few : l.number + length l.rest ≤ length l.commands + 1;
  same : l.out ++ operator_lines l.number l.rest ≡ l.initial.out ++ operator_lines 1 l.commands;
}

abbrev pub decreases-rest : goal.decreases-rest
decreases-rest l = length l.rest
