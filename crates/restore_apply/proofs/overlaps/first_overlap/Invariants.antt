use Rattle.std.specs.Option.{option_copied}
use Rattle.restore_apply.proofs.Sweeps.{Swept}
use Rattle.restore_apply.proofs.overlaps.first_overlap.Given as goal

abbrev pub invariant-loop-at : goal.invariant-loop-at
invariant-loop-at l = Swept l.order l.at-index (option_copied l.last)
