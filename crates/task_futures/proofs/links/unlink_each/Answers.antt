use Rattle.std.proofs.Common.{◌≡◌, ◌-◌, ◌+◌, length, get_or, ap, arith}
use Rattle.task_futures.proofs.Joining.{unlinked_step}
use Rattle.task_futures.proofs.links.unlink_each.Goals as goal

pub loop-i-preserved : goal.loop-i-preserved
loop-i-preserved c =
    let parts = c.args.parts.now in
    let same : length parts - 1 - c.loop-i.i ≡ length parts - (c.loop-i.i + 1) = omega arith in
    unlinked_step c.args.futures.now parts (length parts - c.loop-i.i) (length parts - (c.loop-i.i + 1)) (get_or parts (length parts - 1 - c.loop-i.i) 0) c.loop-i.futures c.unlink.new.futures (omega arith) (omega arith) (ap (λ n. get_or parts n 0) same) c.loop-i.invariant c.unlink.ensures
