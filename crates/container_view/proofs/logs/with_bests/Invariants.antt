use Rattle.std.proofs.Common.{◌≡◌, ◌++◌, drop, None, option_map}
use Rattle.container_view.specs.inner.Listed.{logs_of, bests}
use Rattle.container_view.proofs.logs.with_bests.Given as goal

-- the best so far and those of the rest are all
abbrev pub invariant-logs : goal.invariant-logs
invariant-logs l = logs_of l.list.items ++ bests (option_map (λ x. (x.0.now, x.1)) l.best) (logs_of (drop l.log-index l.logs)) ≡ bests None (logs_of l.logs)
