use Rattle.std.proofs.Common.{◌≡◌, false, take}
use Rattle.container_view.specs.Names.{is_named}
use Rattle.container_view.proofs.view.is_named.Given as goal

abbrev pub invariant-names : goal.invariant-names
invariant-names l = is_named (take l.listed-index l.listed-items) l.name ≡ false
