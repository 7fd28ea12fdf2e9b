use Rattle.std.proofs.Common.{Option, None, cond, refl, sym, subst}
use Rattle.fb_bytes.specs.Bytes.{Bytes, is_same}
use Rattle.restore_apply.specs.inner.Tables.{Leaves}
use Rattle.restore_apply.proofs.Tables.{written_leaves}
use Rattle.restore_apply.proofs.table.write.Goals as goal

pub returns-in-None : goal.returns-in-None
returns-in-None c = subst (λ (value : Option Bytes). Leaves (λ at before. cond (is_same c.args.key.now at) value before) c.args.table.now c.remove.new.self) (sym c.in-None.is) (written_leaves c.args.table.now c.remove.new.self c.args.key.now c.args.key.now None refl c.remove.ensures.updates)
