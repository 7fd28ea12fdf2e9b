use Rattle.std.proofs.Common.{◌≡◌, take}
use Rattle.snapshot_plan.proofs.file_map.FileMap.copy.Given as goal

abbrev pub invariant-loop-one : goal.invariant-loop-one
invariant-loop-one l = l.noted.items ≡ take l.one-index l.one-items
