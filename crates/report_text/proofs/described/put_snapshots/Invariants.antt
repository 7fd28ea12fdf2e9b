use Rattle.std.proofs.Common.{◌≡◌, ◌++◌, take}
use Rattle.std.specs.List.{flat_map}
use Rattle.report_text.specs.Descriptions.{snapshot_line}
use Rattle.report_text.proofs.described.put_snapshots.Given as goal

abbrev pub invariant-loop-snapshot : goal.invariant-loop-snapshot
invariant-loop-snapshot l = l.out ≡ l.initial.out ++ flat_map snapshot_line (take l.snapshot-index l.snapshots)
