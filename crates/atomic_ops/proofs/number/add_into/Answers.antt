use Rattle.std.proofs.Common.{◌+◌, length, refl, arith, rules}
use Rattle.atomic_ops.proofs.NumberLemmas.{adds_up_more, adds_up_all}
use Rattle.atomic_ops.proofs.number.add_into.Goals as goal

pub loop-i-preserved : goal.loop-i-preserved
loop-i-preserved c =
    adds_up_more c.args.total.now c.args.more.now c.loop-i.total c.loop-i.i c.loop-i.carry (c.from.result + c.from-in-loop-i.result + c.loop-i.carry)
    c.loop-i.invariant (omega arith) (search rules) (omega arith)

pub returns : goal.returns
returns c =
    adds_up_all c.args.total.now c.args.more.now c.loop-i.total (length c.args.more.now) c.loop-i.carry
    (search rules) (omega arith) refl (omega arith)
