use Rattle.std.proofs.Common.{◌≡◌, drop, None, option_map}
use Rattle.manifests.specs.Reading.{misplaced}
use Rattle.manifests.proofs.reading.misplaced.Given as goal

abbrev pub invariant-loop-at : goal.invariant-loop-at
invariant-loop-at l = misplaced (option_map (λ x. x.now) l.last) l.at (drop l.at l.files) ≡ misplaced None 0 l.files
