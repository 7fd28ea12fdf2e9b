use Rattle.std.proofs.Common.{◌≡◌, drop}
use Rattle.database.specs.Commits.{large_in}
use Rattle.database.proofs.writes.large_among.Given as goal

abbrev pub invariant-loop-log : goal.invariant-loop-log
invariant-loop-log l = large_in (drop l.log-index l.logs) l.muts ≡ large_in l.logs l.muts
