use Rattle.std.proofs.Common.{◌≡◌, drop}
use Rattle.cluster_core.specs.Jobs as spec
use Rattle.cluster_core.proofs.job.started_in.Given as goal

abbrev pub invariant-jobs : goal.invariant-jobs
invariant-jobs l = spec.started_in l.fn.container (drop l.job-index l.jobs) ≡ spec.started_in l.fn.container l.fn.jobs
