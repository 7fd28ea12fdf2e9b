use Rattle.std.proofs.Common.{◌∙◌}
use Rattle.atomic_ops.specs.Operation.{operation}
use Rattle.restore_apply.specs.inner.Tables.{found}
use Rattle.restore_apply.proofs.Among.{on_ok}
use Rattle.restore_apply.proofs.Batches.{left_at}
use Rattle.restore_apply.proofs.replay.operate.Goals as goal

pub returns : goal.returns
returns c = on_ok c.write.result (λ e at. e at ∙ left_at (found c.args.table.now) (λ old. operation c.args.op old c.args.param.now c.args.limit) c.args.key.now at c.in_ok-left.left c.in_ok-left.ensures) c.write.ensures
