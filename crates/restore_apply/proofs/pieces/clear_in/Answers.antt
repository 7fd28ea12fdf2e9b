use Rattle.restore_apply.specs.inner.Tables.{found}
use Rattle.restore_apply.proofs.Among.{cleared_in, on_ok}
use Rattle.restore_apply.proofs.pieces.clear_in.Goals as goal

pub returns : goal.returns
returns c = on_ok c.clear.result (λ e key. cleared_in c.args.piece.now c.args.version c.args.begin.now c.args.end.now c.later-begin.result.now c.earlier-end.result.now key (found c.args.table.now key) (found c.clear.new.table key) c.if-piece-version.false c.later-begin.ensures c.earlier-end.ensures (e key)) c.clear.ensures
