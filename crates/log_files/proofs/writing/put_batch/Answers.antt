use Rattle.std.proofs.Common.{refl, ap, ◌∙◌, arith}
use Rattle.fb_bytes.specs.Bytes.{Bytes}
use Rattle.log_files.specs.Grammar.{row_text}
use Rattle.log_files.proofs.Writer.{row_at, parts_more, parts_end}
use Rattle.log_files.proofs.writing.put_batch.Goals as goal

pub parts-init : goal.parts-init
parts-init g c = record { few = omega arith; so_far = refl }

pub parts-preserved : goal.parts-preserved
parts-preserved g c = record {
  few = omega (arith, c.parts.invariant.few, c.parts-test.true, c.split_at.ensures.back_len, c.requires.part);
  so_far = parts_more g.row.BLOCK c.args.part c.parts.frames c.item.new.self c.args.version c.parts.number c.parts.rest.now c.split_at.result.1.now c.deref.result.now _ _
      (omega (arith, c.requires.part)) c.parts-test.true
      (c.deref.ensures.value ∙ c.in_ok-set.ensures ∙ ap (λ (x : Bytes). row_text (row_at c.args.version c.parts.number x)) c.split_at.ensures.front)
      refl c.in_ok-item.ensures.ok c.split_at.ensures.back c.parts.invariant.so_far;
}

pub returns : goal.returns
returns g c =
    parts_end g.row.BLOCK c.args.part c.parts.frames c.item-2.new.self c.args.version c.parts.number c.parts.rest.now c.deref-2.result.now _ _
    c.parts-test.false (c.deref-2.ensures.value ∙ c.in_ok-set-2.ensures) refl c.in_ok-item-2.ensures.ok c.parts.invariant.so_far
