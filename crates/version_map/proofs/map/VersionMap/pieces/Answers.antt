use Rattle.std.proofs.Common.{◌≡◌, arith, sym, subst}
use Rattle.std.proofs.lemmas.Grind.{common_steps}
use Rattle.version_map.specs.Pieces.{ArePieces}
use Rattle.version_map.specs.Parts.{parts_of}
use Rattle.version_map.specs.Laws.{ArePartsOf}
use Rattle.version_map.proofs.Parts.{parts_law}
use Rattle.version_map.proofs.map.VersionMap.pieces.Goals as goal

pub returns-clause-told : goal.returns-clause-told
returns-clause-told c =
    let range = c.args.range.now in
    let map = c.args.self.now in
    let e : c.from_vec.result ≡ parts_of range map = grind (arith, common_steps) in
    subst (ArePartsOf range map) (sym e) (parts_law range map (subst ArePieces c.self.view_is c.self.invariant))
