use Rattle.std.proofs.Common.{◌≡◌, drop}
use Rattle.snapshot_plan.specs.Noted.{greatest_of}
use Rattle.snapshot_plan.proofs.file_map.greatest_of.Given as goal

abbrev pub invariant-rest : goal.invariant-rest
invariant-rest l = greatest_of l.greatest (drop l.one-index l.rest) ≡ greatest_of l.first l.rest
