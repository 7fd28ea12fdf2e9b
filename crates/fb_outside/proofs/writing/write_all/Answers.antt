use Rattle.std.proofs.Common.{◌++◌, ap, ◌∙◌, Some, take, arith, append_assoc}
use Rattle.std.proofs.lemmas.List.{take_rest}
use Rattle.fb_outside.proofs.Fronts.{goes_on}
use Rattle.fb_outside.proofs.writing.write_all.Goals as goal

pub pieces-preserved : goal.pieces-preserved
pieces-preserved g c =
    let kept = c.pieces.invariant in
    let front = kept.0 in
    let rest = c.pieces.rest.now in
    let n = c.in_ok-n.n in (
      front ++ take n rest,
      rw take_rest (goes_on n c.args.bytes.now front rest kept.1),
      λ held told. c.in_ok-n.ensures.taken (held ++ front) (kept.2 held told) ∙ ap Some (append_assoc held front (take n rest)),
      omega arith,
    )
