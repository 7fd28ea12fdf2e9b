use Rattle.std.proofs.Common.{◌≡◌, take}
use Rattle.container_view.specs.inner.Listing.{texts}
use Rattle.container_view.proofs.listing.each.Given as goal

abbrev pub invariant-names : goal.invariant-names
invariant-names l = texts l.list.items ≡ take l.name-index l.names
