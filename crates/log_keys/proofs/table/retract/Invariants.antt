use Rattle.std.proofs.Common.{◌-◌, length}
use Rattle.log_keys.proofs.Retracts.{RetractedSo}
use Rattle.log_keys.proofs.table.retract.Given as goal

abbrev pub invariant-jobs : goal.invariant-jobs
invariant-jobs l = RetractedSo l.version l.initial.rows.items l.done l.rows.items

abbrev pub decreases-jobs : goal.decreases-jobs
decreases-jobs l = length l.rows.items - l.done
