use Rattle.std.proofs.Common.{◌≡◌, drop, option_map}
use Rattle.mutations.specs.Transactions.{◌or_else◌}
use Rattle.cluster_core.specs.Jobs as spec
use Rattle.cluster_core.proofs.job.newest.Given as goal

abbrev pub invariant-jobs : goal.invariant-jobs
invariant-jobs l = option_map (λ (found : spec.Found). found.place) (spec.newest_from l.place l.tag (drop l.place l.jobs)) or_else l.found ≡ option_map (λ (found : spec.Found). found.place) (spec.newest l.fn.tag l.fn.jobs)
