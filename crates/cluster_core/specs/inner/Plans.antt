-- What a step of the operator comes to, once all is known but what the outside does.
use Rattle.std.specs.Prelude.{◌≡◌, ℕ, ◌≤◌, false, Option, Some, None, Ok, slice_get}
use Rattle.fb_bytes.specs.Bytes.{Bytes}
use Rattle.workload_text.specs.declared.Command.{Command}
use Rattle.workload_text.specs.declared.Command.TheVariants as commands
use Rattle.workload_text.specs.declared.Settings.{Settings}
use Rattle.workload_text.specs.declared.Workload.{Workload}
use Rattle.database.specs.Commits.{most_version}
use Rattle.cluster_core.specs.declared.event.Answer.TheVariants as answers
use Rattle.cluster_core.specs.declared.plan.Filing.{Filing}
use Rattle.cluster_core.specs.declared.plan.Plan.{Plan}
use Rattle.cluster_core.specs.declared.plan.Plan.TheVariants.{Nothing, Refuse, Tell, Put, Pause}
use Rattle.cluster_core.specs.declared.plan.Plan.TheVariants.{Abort, Open}
use Rattle.cluster_core.specs.declared.plan.Running.{Running}
use Rattle.cluster_core.specs.declared.plan.Running.TheVariants.{At, Refused}
use Rattle.cluster_core.specs.declared.planning.JobCommand.{JobCommand}
use Rattle.cluster_core.specs.declared.planning.JobCommand.TheVariants as asks
use Rattle.cluster_core.specs.declared.job.Job.{Job}
use Rattle.task_kinds.specs.States.{has_ended}
use Rattle.cluster_core.specs.Backups.{FoundBackup}
use Rattle.cluster_core.specs.Jobs.{Found, newest, state_of_job, log_on, on_backup}
use Rattle.workload_text.specs.declared.Side.{Side}
use Rattle.cluster_core.specs.State.{State, with_job}
use Rattle.cluster_core.specs.Moves.{Luck, Moved, moved}
use Rattle.cluster_core.specs.commands.Shared.{gone_on, refuses, done, putting}
use Rattle.cluster_core.specs.commands.Abort.{with_abort}
use Rattle.cluster_core.specs.commands.Open.{open_listed}
use Rattle.cluster_core.specs.commands.Pause.{set_paused}
use Rattle.cluster_core.specs.commands.Shared.{on_job}
use Rattle.cluster_core.specs.Operator.{command_gives}
use Rattle.cluster_core.specs.inner.Filed.{changed, CanChange}
use Rattle.cluster_core.specs.Step.{operate}

-- the job at a place is aborted, where there is one
abbrev pub aborts : State → ℕ → Option Job → Moved
aborts state place None = moved (Ok answers.Nothing) state
aborts state place (Some job) = done (with_job place (with_abort job) state)

-- a file is put for the job at a place, where there is one
abbrev pub files : State → Filing → Luck → Option Job → Moved
files state filing luck None = moved (Ok answers.Nothing) state
files state filing luck (Some job) =
    putting state filing.whole filing.bytes
    (with_job filing.place (changed filing.change job) state) luck

-- what a plan gives, by what the outside does
abbrev pub planned : Settings → State → Luck → Plan → Moved
planned settings state luck Nothing = moved (Ok answers.Nothing) state
planned settings state luck (Refuse refusal) = refuses refusal state
planned settings state luck (Tell told) = moved (Ok (answers.State told)) (gone_on state)
planned settings state luck (Pause paused) = set_paused state paused
planned settings state luck (Put filing) =
    files state filing luck (slice_get state.jobs filing.place)
planned settings state luck (Abort place) = aborts state place (slice_get state.jobs place)
planned settings state luck (Open tag side container ranges) =
    open_listed settings state tag side container ranges luck

-- the command that asks this of the newest job with a tag
abbrev pub command_of : Bytes → JobCommand → Command
command_of tag (asks.Dump piece) = commands.Dump tag piece.now
command_of tag asks.Cut = commands.Cut tag
command_of tag asks.Seal = commands.Seal tag
command_of tag asks.Abort = commands.Abort tag

-- the plan is that of a command
abbrev pub IsPlanOf : Settings → State → Command → Plan → Type 0
IsPlanOf settings state command plan =
    (luck : Luck) → command_gives settings state luck command ≡ planned settings state luck plan

-- the plan is that of what a command of backups does with the job that was found
abbrev pub IsPlanAt : Settings → State → (Luck → FoundBackup → Moved) → Found → Plan → Type 0
IsPlanAt settings state f found plan =
    (luck : Luck) → on_backup (f luck) found ≡ planned settings state luck plan

-- A job may take another one's place among the jobs: nothing of its log differs.
abbrev pub IsLike : Job → Job → Type 0
IsLike old new = (side : Side) → log_on side new ≡ log_on side old

-- a file that is put is of a job that is there and may change so, and a ticket is left for it
pub record IsFiling (state : State) (filing : Filing) : Type 0 where
  pub tickets : state.tickets ≤ most_version
  pub can : CanChange filing.change
  pub job : Job
  pub at : slice_get state.jobs filing.place ≡ Some job

-- what is known of a plan: a job that is aborted is there
abbrev pub IsSafe : State → Plan → Type 0
IsSafe state Nothing = Unit {0}
IsSafe state (Refuse refusal) = Unit {0}
IsSafe state (Tell told) = Unit {0}
IsSafe state (Pause paused) = Unit {0}
IsSafe state (Put filing) = IsFiling state filing
IsSafe state (Abort place) = (job : Job) × (slice_get state.jobs place ≡ Some job)
IsSafe state (Open tag side container ranges) = Unit {0}

-- the newest job with the tag stands at the place and hasn't ended, or each command of one job is
-- refused
abbrev pub IsRunning : State → Bytes → Running → Type 0
IsRunning state tag (At place) =
    (job : Job) × (slice_get state.jobs place ≡ Some job) × (has_ended (state_of_job job) ≡ false)
    × (newest tag state.jobs ≡ Some (record { place = place; job = job }))
IsRunning state tag (Refused refusal) =
    (f : Found → Moved) → on_job state tag f ≡ refuses refusal state

-- the plan is that of the operator's next command
abbrev pub IsPlan : Workload → State → Plan → Type 0
IsPlan workload state plan =
    (luck : Luck) → operate workload state luck ≡ planned workload.settings state luck plan
