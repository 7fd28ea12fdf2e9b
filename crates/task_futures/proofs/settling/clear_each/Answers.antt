use Rattle.std.proofs.Common.{sym, subst, take, refl}
use Rattle.task_futures.specs.inner.Futures.{cleared_by}
use Rattle.task_futures.specs.Laws.{AreRising}
use Rattle.task_futures.proofs.Finding.{rising_map}
use Rattle.task_futures.proofs.Falling.{cleared-nothing, clears_on}
use Rattle.task_futures.proofs.settling.clear_each.Goals as goal

pub loop-part-init : goal.loop-part-init
loop-part-init c = sym (cleared-nothing c.args.futures.now)

pub clear-requires : goal.clear-requires
clear-requires c = subst AreRising (sym c.loop-part.invariant) (rising_map (cleared_by (take c.loop-part.part-index c.args.parts.now)) (λ f. refl) c.args.futures.now c.requires)

pub loop-part-preserved : goal.loop-part-preserved
loop-part-preserved c = clears_on c.args.parts.now c.loop-part.part-index _ c.args.futures.now c.loop-part.futures c.clear.new.futures c.loop-part-test.true c.loop-part.invariant c.clear.ensures
