use Rattle.std.proofs.Common.{◌≡◌, take}
use Rattle.container_view.specs.View.{stripped}
use Rattle.container_view.proofs.view.relative.Given as goal

abbrev pub invariant-names : goal.invariant-names
invariant-names l = l.list ≡ stripped l.container (take l.name-index l.name-items)
