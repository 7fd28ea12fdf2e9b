use Rattle.std.proofs.Common.{◌≡◌, map, take}
use Rattle.task_futures.specs.inner.Futures.{cleared_by}
use Rattle.task_futures.proofs.settling.clear_each.Given as goal

abbrev pub invariant-loop-part : goal.invariant-loop-part
invariant-loop-part l = l.futures ≡ map (cleared_by (take l.part-index l.parts)) l.initial.futures
