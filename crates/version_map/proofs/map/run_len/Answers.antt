use Rattle.std.proofs.Common.{◌≤◌, arith, sym, subst}
use Rattle.std.specs.List.{prefix_len}
use Rattle.version_map.specs.inner.Pieces.{is_past}
use Rattle.version_map.proofs.Splices.{places_ordered, forward}
use Rattle.version_map.proofs.map.run_len.Goals as goal

pub overflow_sub-result : goal.overflow_sub-result
overflow_sub-result c =
    let r = c.args.range.now in
    subst (λ n. n ≤ c.args.last) (sym c.requires.first)
    (subst (λ n. prefix_len (is_past r.begin) c.args.pieces.now ≤ n) (sym c.requires.last)
    (places_ordered r.begin r.end c.args.pieces.now (forward r c.requires.forward) c.requires.pieces))

pub returns : goal.returns
returns c = let le : c.args.first ≤ c.args.last = overflow_sub-result c in omega arith
