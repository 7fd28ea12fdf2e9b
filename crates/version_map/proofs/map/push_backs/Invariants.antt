use Rattle.std.proofs.Common.{◌≡◌, ◌++◌, drop, flat_map}
use Rattle.version_map.specs.Pieces.{back_of}
use Rattle.version_map.proofs.map.push_backs.Given as goal

abbrev pub invariant-loop-piece : goal.invariant-loop-piece
invariant-loop-piece l = l.list.items ++ flat_map (back_of l.key) (drop l.piece-index l.pieces) ≡ l.initial.list.items ++ flat_map (back_of l.key) l.pieces
