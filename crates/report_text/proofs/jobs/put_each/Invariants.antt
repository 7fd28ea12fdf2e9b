use Rattle.std.proofs.Common.{◌≡◌, ◌++◌, drop, map}
use Rattle.cluster_core.specs.Jobs.{job_told}
use Rattle.report_text.specs.Jobs as spec
use Rattle.report_text.proofs.jobs.put_each.Given as goal

abbrev pub invariant-jobs : goal.invariant-jobs
invariant-jobs l = l.out ++ spec.job_lines (map job_told (drop l.job-index l.jobs)) ≡ l.initial.out ++ spec.job_lines (map job_told l.jobs)
