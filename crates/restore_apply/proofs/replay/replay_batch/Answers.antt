use Rattle.std.proofs.Common.{cond, ap, ◌∙◌}
use Rattle.mutations.specs.Effects.{effects}
use Rattle.restore_apply.specs.inner.Pieces.{since, is_older}
use Rattle.restore_apply.specs.inner.Tables.{found}
use Rattle.restore_apply.proofs.Among.{on_ok}
use Rattle.restore_apply.proofs.Batches.{effects_if_is, due_is}
use Rattle.restore_apply.proofs.replay.replay_batch.Goals as goal

pub returns : goal.returns
returns c = on_ok c.make_all.result (λ e at.
    e at
    ∙ effects_if_is (is_older (since c.args.pieces.now at) c.args.batch.now.version) c.args.link.now.limit c.args.batch.now.muts at (found c.args.table.now at)
    ∙ ap (λ b. cond b (effects c.args.link.now.limit c.args.batch.now.muts at (found c.args.table.now at)) (found c.args.table.now at)) (due_is (since c.args.pieces.now at) c.args.link.now c.args.upto c.args.batch.now.version c.gives.result c.gives.ensures c.if-not-gives.false)) c.make_all.ensures
