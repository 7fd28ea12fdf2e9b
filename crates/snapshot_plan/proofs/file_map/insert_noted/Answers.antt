use Rattle.std.proofs.Common.{◌∙◌, arith}
use Rattle.fb_bytes.specs.Bytes.{is_below}
use Rattle.snapshot_plan.proofs.Placing.{place_within, noted_place_is, noted_inserted}
use Rattle.snapshot_plan.proofs.file_map.insert_noted.Goals as goal

pub insert-requires : goal.insert-requires
insert-requires c =
    let noted = c.args.noted.now.items in
    let one = c.args.one in
    let at = noted_place_is noted c.deref.result.now one c.as_slice.result.now c.place_of-at.result c.deref.ensures.value c.as_slice.ensures.same c.place_of-at.ensures in
    let within = place_within (λ n. is_below n.piece.begin one.piece.begin) noted in
    omega (arith, at, within)

pub returns-clause-ok : goal.returns-clause-ok
returns-clause-ok c =
    let noted = c.args.noted.now.items in
    let one = c.args.one in
    let at = noted_place_is noted c.deref.result.now one c.as_slice.result.now c.place_of-at.result c.deref.ensures.value c.as_slice.ensures.same c.place_of-at.ensures in
    c.in_ok-insert.ensures.items ∙ noted_inserted noted one c.place_of-at.result at
