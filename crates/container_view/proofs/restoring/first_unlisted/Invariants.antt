use Rattle.std.proofs.Common.{◌≡◌, drop}
use Rattle.container_view.specs.Sets as spec
use Rattle.container_view.proofs.restoring.first_unlisted.Given as goal

abbrev pub invariant-wanted : goal.invariant-wanted
invariant-wanted l = spec.first_unlisted l.names (drop l.name-index l.wanted) ≡ spec.first_unlisted l.names l.wanted
