use Rattle.std.proofs.Common.{◌≡◌, take}
use Rattle.container_view.specs.inner.Parts.{first_parts}
use Rattle.container_view.proofs.catalog.parts_of.Given as goal

abbrev pub invariant-names : goal.invariant-names
invariant-names l = l.list.items ≡ first_parts (take l.name-index l.names)
