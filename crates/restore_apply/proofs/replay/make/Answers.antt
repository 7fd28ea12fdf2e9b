use Rattle.std.proofs.Common.{cond, sym, ap, ◌∙◌, subst}
use Rattle.fb_bytes.specs.Bytes.{Bytes}
use Rattle.atomic_ops.specs.Operation.{operation}
use Rattle.mutations.specs.declared.mutation.Mutation.{Mutation}
use Rattle.mutations.specs.Effects.{effect}
use Rattle.restore_apply.specs.inner.Pieces.{since, is_older}
use Rattle.restore_apply.specs.inner.Tables.{found, Leaves}
use Rattle.restore_apply.proofs.Among.{on_ok}
use Rattle.restore_apply.proofs.Batches.{made_at, unmade_at}
use Rattle.restore_apply.proofs.replay.make.Goals as goal

pub returns-then-not-is_older : goal.returns-then-not-is_older
returns-then-not-is_older c =
    let test = λ (at : Bytes). is_older (since c.args.pieces.now at) c.args.version in
    subst (λ (m : Mutation). Leaves (λ at old. cond (test at) (effect c.args.limit m at old) old) c.args.table.now c.args.table.now) (sym c.in-Atomic.is)
    (λ at. unmade_at test c.in-Atomic.key at c.is_older.result (operation c.in-Atomic.op (found c.args.table.now at) c.in-Atomic.param c.args.limit) (found c.args.table.now at) (c.is_older.ensures ∙ ap test c.as_slice.ensures.same) c.if-not-is_older.true)

pub returns-else-not-is_older : goal.returns-else-not-is_older
returns-else-not-is_older c =
    let test = λ (at : Bytes). is_older (since c.args.pieces.now at) c.args.version in
    on_ok c.operate.result (λ e. subst (λ (m : Mutation). Leaves (λ at old. cond (test at) (effect c.args.limit m at old) old) c.args.table.now c.operate.new.table) (sym c.in-Atomic.is)
    (λ at. e at ∙ made_at test c.in-Atomic.key at c.is_older.result (operation c.in-Atomic.op (found c.args.table.now at) c.in-Atomic.param c.args.limit) (found c.args.table.now at) (c.is_older.ensures ∙ ap test c.as_slice.ensures.same) c.if-not-is_older.false)) c.operate.ensures
