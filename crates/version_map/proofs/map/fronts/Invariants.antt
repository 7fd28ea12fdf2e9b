use Rattle.std.proofs.Common.{◌≡◌, ◌++◌, drop, flat_map}
use Rattle.version_map.specs.Pieces.{front_of}
use Rattle.version_map.proofs.map.fronts.Given as goal

abbrev pub invariant-loop-piece : goal.invariant-loop-piece
invariant-loop-piece l = l.fronts.items ++ flat_map (front_of l.key) (drop l.piece-index l.pieces) ≡ flat_map (front_of l.key) l.pieces
