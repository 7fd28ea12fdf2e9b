use Rattle.std.proofs.Common.{drop}
use Rattle.database.proofs.Logged.{IsPutting}
use Rattle.database.proofs.logging.put_each.Given as goal

abbrev pub invariant-loop-log : goal.invariant-loop-log
invariant-loop-log l = IsPutting l.entry.version l.entry.muts l.logs (drop l.log-index l.logs) l.fn.keys l.keys
