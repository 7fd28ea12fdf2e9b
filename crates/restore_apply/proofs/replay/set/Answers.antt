use Rattle.std.proofs.Common.{Some, cond, ap, ◌∙◌}
use Rattle.fb_bytes.specs.Bytes.{Bytes, is_same}
use Rattle.restore_apply.specs.inner.Pieces.{since, is_older}
use Rattle.restore_apply.specs.inner.Tables.{found}
use Rattle.restore_apply.proofs.Among.{on_ok}
use Rattle.restore_apply.proofs.Batches.{made_at, unmade_at}
use Rattle.restore_apply.proofs.replay.set.Goals as goal

pub returns-then-not-is_older : goal.returns-then-not-is_older
returns-then-not-is_older c =
    let test = λ (at : Bytes). is_older (since c.args.pieces.now at) c.args.version in
    λ at. unmade_at test c.args.key.now at c.is_older.result (Some c.args.value.now) (found c.args.table.now at) (c.is_older.ensures ∙ ap test c.as_slice.ensures.same) c.if-not-is_older.true

pub returns : goal.returns
returns c =
    let test = λ (at : Bytes). is_older (since c.args.pieces.now at) c.args.version in
    on_ok c.write.result (λ e at. e at ∙ ap (λ v. cond (is_same c.args.key.now at) (Some v) (found c.args.table.now at)) c.in_ok-value.ensures
    ∙ made_at test c.args.key.now at c.is_older.result (Some c.args.value.now) (found c.args.table.now at) (c.is_older.ensures ∙ ap test c.as_slice.ensures.same) c.if-not-is_older.false) c.write.ensures
