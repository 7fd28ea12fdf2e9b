use Rattle.std.proofs.Common.{Some}
use Rattle.restore_apply.proofs.Tables.{written_leaves}
use Rattle.restore_apply.proofs.table.put.Goals as goal

pub returns : goal.returns
returns c = written_leaves c.args.table.now c.insert.new.self c.in_ok-key.key c.args.key.now (Some c.args.value) c.in_ok-key.ensures c.in_ok-insert.ensures.updates
