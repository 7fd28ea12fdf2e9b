use Rattle.std.proofs.Common.{◌≡◌, ◌++◌, drop}
use Rattle.version_map.specs.Parts.{parts_between}
use Rattle.version_map.proofs.map.VersionMap.pieces.Given as goal

abbrev pub invariant-loop-piece : goal.invariant-loop-piece
invariant-loop-piece l = l.parts.items ++ parts_between l.begin l.range.end (drop l.piece-index l.piece-items) ≡ parts_between l.range.begin l.range.end l.piece-items
