use Rattle.atomic_ops.proofs.NumberLemmas.{AddsUp}
use Rattle.atomic_ops.proofs.number.add_into.Given as goal

abbrev pub invariant-loop-i : goal.invariant-loop-i
invariant-loop-i l = AddsUp l.initial.total l.more l.total l.i l.carry
