use Rattle.std.proofs.Common.{◌≡◌, drop}
use Rattle.snapshot_plan.specs.Noted.{least_of}
use Rattle.snapshot_plan.proofs.file_map.least_of.Given as goal

abbrev pub invariant-rest : goal.invariant-rest
invariant-rest l = least_of l.least (drop l.one-index l.rest) ≡ least_of l.first l.rest
