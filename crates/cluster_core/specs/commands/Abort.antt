-- The command abort: a job is given up.
use Rattle.backup_core.specs.Backups.{aborted_job}
use Rattle.cluster_core.specs.declared.job.Job.{Job}
use Rattle.cluster_core.specs.declared.job.Job.TheVariants as types
use Rattle.cluster_core.specs.Jobs.{Found}
use Rattle.cluster_core.specs.State as machine
use Rattle.cluster_core.specs.State.{with_job}
use Rattle.cluster_core.specs.Moves.{Moved}
use Rattle.cluster_core.specs.commands.Shared.{done}

-- the job once it is given up, by its type
abbrev pub with_abort : Job → Job
with_abort (types.Backup backup) =
    types.Backup (record backup { job = aborted_job backup.job })

abbrev pub abort_job : machine.State → Found → Moved
abort_job state found = done (with_job found.place (with_abort found.job) state)
