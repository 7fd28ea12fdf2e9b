use Rattle.std.proofs.Common.{◌≡◌, ℕ, ◌+◌, ◌-◌, List, length, take, drop, ◌∙◌, ap, arith, sym, subst}
use Rattle.std.specs.List.{prefix_len}
use Rattle.std.proofs.lemmas.List.{take_rest}
use Rattle.version_map.specs.Pieces.{Piece, ArePieces}
use Rattle.version_map.specs.inner.Pieces.{is_past, is_begun}
use Rattle.version_map.proofs.Cuts.{set_ordered}
use Rattle.version_map.proofs.Splices.{placed, spliced, forward}
use Rattle.version_map.proofs.map.set_on.Goals as goal

run_is : (seen xs : List Piece) (n k : ℕ) → seen ≡ xs → take k (take (length seen - n) (drop n seen)) ≡ take k (drop n xs)
run_is seen xs n k e = ap (take k) (take_rest seen n) ∙ ap (λ ys. take k (drop n ys)) e

pub returns-clause-ok : goal.returns-clause-ok
returns-clause-ok c =
    let r = c.args.range.now in
    let n = c.passed-first.result in
    let k = c.run_len-count.result in
    let m = c.begun-last.result in
    let xs = c.args.pieces.now.items in
    let together : n + k ≡ m = omega arith in
    let first : n ≡ prefix_len (is_past r.begin) xs =
    c.passed-first.ensures.count ∙ (λ i. prefix_len (is_past (c.as_slice.ensures.same i)) (c.deref.ensures.value i)) in
    let last : m ≡ prefix_len (is_begun r.end) xs =
    c.begun-last.ensures.count ∙ (λ i. prefix_len (is_begun (c.as_slice-2.ensures.same i)) (c.deref-2.ensures.value i)) in
    placed n k m xs c.in_ok-cut.cut.items c.insert_all.new.pieces.items c.take_out.new.pieces.items together (omega arith) c.in_ok-insert_all.ensures.ok c.take_out.ensures
    ∙ spliced r.begin r.end n k m xs _ c.in_ok-cut.cut.items _ (forward r c.requires.forward) c.requires.pieces first last together
    (run_is c.deref-4.result.now xs n k c.deref-4.ensures.value) c.in_ok-cut.ensures

pub returns-clause-pieces : goal.returns-clause-pieces
returns-clause-pieces c =
    subst ArePieces (sym (returns-clause-ok c)) (set_ordered c.args.range.now c.args.version c.args.pieces.now.items c.requires.forward c.requires.pieces)
