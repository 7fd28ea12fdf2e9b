use Rattle.std.proofs.Common.{◌≡◌}
use Rattle.database.specs.Logs.{erased_to}
use Rattle.fb_bytes.proofs.Mapped.{mapped}
use Rattle.database.proofs.job_log.erase_log.Given as goal

abbrev pub invariant-loop-log : goal.invariant-loop-log
invariant-loop-log l = l.logs ≡ mapped (erased_to l.job l.below) l.log-index l.initial.logs
