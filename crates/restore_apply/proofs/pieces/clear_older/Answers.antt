use Rattle.std.proofs.Common.{◌∙◌}
use Rattle.fb_bytes.specs.Keys.{holds}
use Rattle.mutations.specs.Effects.{range_of}
use Rattle.restore_apply.specs.inner.Tables.{found}
use Rattle.restore_apply.proofs.Among.{told_clear, on_ok}
use Rattle.restore_apply.proofs.pieces.clear_older.Goals as goal

pub returns : goal.returns
returns c = on_ok c.clear_each.result (λ e key. told_clear c.args.version (range_of c.args.begin.now c.args.end.now) c.among-pieces.result.now c.args.pieces.now key (found c.args.table.now key) (found c.clear_each.new.table key)
    (λ held. c.among-pieces.ensures c.args.version key ((λ i. holds (range_of (c.as_slice.ensures.same i) (c.as_slice-2.ensures.same i)) key) ∙ held)) (e key)) c.clear_each.ensures
