use Rattle.std.proofs.Common.{sym, ◌∙◌, arith}
use Rattle.log_keys.proofs.Places.{part_there, part_missing}
use Rattle.log_keys.proofs.table.has_part.Goals as goal

pub returns-then-place-rows : goal.returns-then-place-rows
returns-then-place-rows c =
    c.is_of.ensures ∙ part_there c.args.job c.args.version c.args.rows.now c.place_of-place.result c.index-rows-place.result c.requires c.place_of-place.ensures.place c.if-place-rows.true c.index-rows-place.is

pub returns-else-place-rows : goal.returns-else-place-rows
returns-else-place-rows c = sym (part_missing c.args.job c.args.version c.args.rows.now (omega (arith, c.if-place-rows.false, c.place_of-place.ensures.place)))
