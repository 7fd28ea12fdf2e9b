use Rattle.std.proofs.Common.{◌≡◌, ◌++◌, drop}
use Rattle.container_view.specs.inner.Listed.{logs_of, runs_from, runs_of}
use Rattle.container_view.proofs.logs.joined.Given as goal

-- the runs so far and those of the rest are all
abbrev pub invariant-logs : goal.invariant-logs
invariant-logs l = l.runs.items ++ runs_from l.begin l.end (logs_of (drop l.log-index l.rest)) ≡ runs_of (logs_of l.logs)
