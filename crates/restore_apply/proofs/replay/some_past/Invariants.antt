use Rattle.std.proofs.Common.{◌≡◌, drop}
use Rattle.restore_apply.specs.inner.Pieces.{some_past}
use Rattle.restore_apply.proofs.replay.some_past.Given as goal

abbrev pub invariant-loop-link : goal.invariant-loop-link
invariant-loop-link l = some_past l.version (drop l.link-index l.links) l.upto ≡ some_past l.version l.links l.upto
