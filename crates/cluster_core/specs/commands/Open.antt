-- The command open: a job is started.
use Rattle.std.specs.Prelude.{ℕ, ◌+◌, Bool, false, not, List, [], ◌∷◌, ◌++◌, length, Option, Some}
use Rattle.std.specs.Prelude.{None, Err, nat_lt, if◌then◌else◌}
use Rattle.fb_bytes.specs.Bytes.{Bytes}
use Rattle.fb_bytes.specs.declared.KeyRange.{KeyRange}
use Rattle.fb_outside.specs.declared.File.{File}
use Rattle.container_view.specs.Names.{names_inside}
use Rattle.database.specs.Commits.{most_version}
use Rattle.backup_core.specs.Backups.{opened}
use Rattle.backup_core.specs.declared.Mode.TheVariants.{Hand}
use Rattle.task_kinds.specs.States.{has_ended}
use Rattle.workload_text.specs.declared.Side.{Side}
use Rattle.workload_text.specs.declared.Settings.{Settings}
use Rattle.cluster_core.specs.declared.event.StepFault.TheVariants.{VersionsSpent}
use Rattle.cluster_core.specs.declared.refusal.Refusal.TheVariants.{TagBusy, ContainerTaken}
use Rattle.cluster_core.specs.declared.refusal.Refusal.TheVariants.{ContainerInUse}
use Rattle.cluster_core.specs.declared.job.Job.{Job}
use Rattle.cluster_core.specs.declared.job.Job.TheVariants as types
use Rattle.cluster_core.specs.Backups.{Backup}
use Rattle.cluster_core.specs.Jobs.{Found, newest, started_in, state_of_job, terms_of}
use Rattle.cluster_core.specs.State as machine
use Rattle.cluster_core.specs.Moves.{names_said, Luck, Moved, moved, asks}
use Rattle.cluster_core.specs.commands.Shared.{refuses, done}

-- the hand job of a number that begins to log at the version
abbrev pub new_backup : ℕ → Bytes → Side → Bytes → List KeyRange → ℕ → Backup
new_backup number tag side container ranges version =
    record {
      tag = tag;
      side = side;
      container = container;
      job = opened number Hand ranges version;
    }

abbrev pub new_job : ℕ → Bytes → Side → Bytes → List KeyRange → ℕ → Job
new_job number tag side container ranges version =
    types.Backup (new_backup number tag side container ranges version)

-- the state once a job was started, whose log begins at the version that was taken
abbrev pub started : Settings → machine.State → Job → Moved
started settings state job =
    done (record state { time = state.time + settings.pace; jobs = state.jobs ++ job ∷ [] })

-- A version is taken, and the job's log begins there. Jobs are numbered from 1.
abbrev pub starts : Settings → machine.State → Bytes → Side → Bytes → List KeyRange → Moved
starts settings state tag side container ranges =
    if nat_lt most_version (state.time + settings.pace)
    then moved (Err (VersionsSpent state.time)) state
    else started settings state
    (new_job (length state.jobs + 1) tag side container ranges (state.time + settings.pace))

-- the names of a container's files that a list gives: those that there are, where the store tells
-- its files
abbrev pub names_listed : Bytes → Option (List File) → List Bytes → List Bytes
names_listed container None said = said
names_listed container (Some files) said = names_inside container files

abbrev pub open_over : Settings → machine.State → Bytes → Side → Bytes → List KeyRange → List Bytes
    → Moved
open_over settings state tag side container ranges [] =
    starts settings state tag side container ranges
open_over settings state tag side container ranges (name ∷ names) =
    refuses (ContainerInUse name) state

-- The container's folder is listed, and has to be empty.
abbrev pub open_listed : Settings → machine.State → Bytes → Side → Bytes → List KeyRange → Luck
    → Moved
open_listed settings state tag side container ranges luck =
    asks state luck
    (λ said. open_over settings state tag side container ranges
    (names_listed container state.files (names_said said)))

abbrev pub open_untaken : Settings → machine.State → Bytes → Side → Bytes → List KeyRange → Luck
    → Option Job → Moved
open_untaken settings state tag side container ranges luck (Some job) =
    refuses (ContainerTaken (terms_of job).tag) state
open_untaken settings state tag side container ranges luck None =
    open_listed settings state tag side container ranges luck

-- the job that was found hasn't ended
abbrev pub is_busy : Option Found → Bool
is_busy None = false
is_busy (Some found) = not (has_ended (state_of_job found.job))

abbrev pub open_job : Settings → machine.State → Bytes → Side → Bytes → List KeyRange → Luck → Moved
open_job settings state tag side container ranges luck =
    if is_busy (newest tag state.jobs) then refuses (TagBusy tag) state
    else open_untaken settings state tag side container ranges luck
    (started_in container state.jobs)
