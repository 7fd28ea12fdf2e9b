use Rattle.std.proofs.Common.{◌+◌, List, length, refl, sym, subst, ◌∙◌, arith}
use Rattle.mutations.specs.Cutting.{pieces_of}
use Rattle.log_keys.specs.inner.Parts.{Row, rows_from}
use Rattle.log_keys.proofs.Cutting.{PartsSoFar, parts_more, parts_end, next_few}
use Rattle.log_keys.proofs.table.parts_of.Goals as goal

pub parts-init : goal.parts-init
parts-init c = record {
  few = omega (arith, c.requires.few);
  so_far = subst (λ (rows : List Row). PartsSoFar c.args.part rows c.args.job c.args.version 0 c.args.batch.now (rows_from c.args.job c.args.version 0 (pieces_of c.args.part c.args.batch.now))) (sym c.new-rows.ensures.items) refl;
}

pub parts-preserved : goal.parts-preserved
parts-preserved c = record {
  few = next_few c.parts.number c.args.part (length c.parts.rest.now) (length c.split_at.result.1.now) c.parts.invariant.few c.parts-test.true c.split_at.ensures.back_len;
  so_far = subst (λ (rows : List Row). PartsSoFar c.args.part rows c.args.job c.args.version (c.parts.number + 1) c.split_at.result.1.now (rows_from c.args.job c.args.version 0 (pieces_of c.args.part c.args.batch.now))) (sym c.in_ok-push.ensures.items)
      (parts_more c.args.part c.parts.rows.items c.args.job c.args.version c.parts.number c.parts.rest.now c.split_at.result.0.now c.split_at.result.1.now c.in_ok-row.row (rows_from c.args.job c.args.version 0 (pieces_of c.args.part c.args.batch.now))
      c.requires.some c.parts-test.true c.in_ok-row.ensures c.split_at.ensures.front c.split_at.ensures.back c.parts.invariant.so_far);
}

pub returns : goal.returns
returns c =
    c.in_ok-push-2.ensures.items
    ∙ parts_end c.args.part c.parts.rows.items c.args.job c.args.version c.parts.number c.parts.rest.now c.in_ok-row-2.row _ c.parts-test.false c.in_ok-row-2.ensures c.parts.invariant.so_far
