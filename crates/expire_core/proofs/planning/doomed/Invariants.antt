use Rattle.std.proofs.Common.{◌≡◌, take}
use Rattle.expire_core.specs.Doomed.{doomed}
use Rattle.expire_core.proofs.planning.doomed.Given as goal

abbrev pub invariant-names : goal.invariant-names
invariant-names l = l.list ≡ doomed l.cutoff (take l.name-index l.name-items)
