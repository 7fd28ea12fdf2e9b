use Rattle.std.proofs.Common.{◌-◌, length, take, drop, refl, sym, ap, ◌∙◌, subst}
use Rattle.std.specs.List.{prefix_len}
use Rattle.std.proofs.lemmas.List.{take_rest}
use Rattle.version_map.specs.Pieces.{ArePieces}
use Rattle.version_map.proofs.Halves.{among_all, pieces_drop, is_past, is_begun}
use Rattle.version_map.proofs.places.among.Goals as goal

pub begun-requires : goal.begun-requires
begun-requires c = subst ArePieces (sym (take_rest c.args.pieces.now c.passed.result)) (pieces_drop c.passed.result c.args.pieces.now c.requires)

pub returns : goal.returns
returns c =
    let pieces = c.args.pieces.now in
    let rest = take (length pieces - c.passed.result) (drop c.passed.result pieces) in
    among_all c.args.range.now.begin c.args.range.now.end pieces rest _ c.passed.result c.begun.result c.requires
    (c.passed.ensures.count ∙ ap (λ k. prefix_len (is_past k) pieces) c.as_slice.ensures.same)
    (take_rest pieces c.passed.result)
    (c.begun.ensures.count ∙ ap (λ k. prefix_len (is_begun k) rest) c.as_slice-2.ensures.same) refl
