use Rattle.std.proofs.Common.{◌≡◌, ◌++◌, drop}
use Rattle.snapshot_plan.specs.Listing.{noted_names}
use Rattle.snapshot_plan.proofs.file_map.file_names.Given as goal

abbrev pub invariant-noted : goal.invariant-noted
invariant-noted l = l.names.items ++ noted_names (drop l.one-index l.noted) ≡ noted_names l.noted
