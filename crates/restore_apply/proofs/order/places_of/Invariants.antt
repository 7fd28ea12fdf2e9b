use Rattle.std.proofs.Common.{◌≡◌, ◌++◌, drop}
use Rattle.restore_apply.specs.Overlaps.{numbered}
use Rattle.restore_apply.proofs.order.places_of.Given as goal

abbrev pub invariant-loop-place : goal.invariant-loop-place
invariant-loop-place l = l.places.items ++ numbered l.place (drop l.place l.files) ≡ numbered 0 l.files
