-- What a step may touch: one entry of a side, one job, one file of a job's container.
use Rattle.std.specs.Prelude.{◌≡◌, ℕ, ◌+◌, ◌≤◌, List, [], ◌∷◌, ◌++◌, Option, Some, Result, Err, ◌⊎◌}
use Rattle.std.specs.Prelude.{slice_get, slice_set}
use Rattle.fb_bytes.specs.Bytes.{Bytes}
use Rattle.fb_outside.specs.declared.File.{File}
use Rattle.mutations.specs.declared.Entry.{Entry}
use Rattle.container_view.specs.Files.{whole_name}
use Rattle.workload_text.specs.declared.Workload.{Workload}
use Rattle.cluster_core.specs.declared.event.Event.{Event}
use Rattle.cluster_core.specs.declared.event.Event.TheVariants as events
use Rattle.cluster_core.specs.declared.event.Answer.{Answer}
use Rattle.cluster_core.specs.declared.event.StepFault.{StepFault}
use Rattle.cluster_core.specs.declared.event.StepFault.TheVariants.{NoMemory}
use Rattle.cluster_core.specs.declared.job.Job.{Job}
use Rattle.cluster_core.specs.declared.job.Job.TheVariants as types
use Rattle.cluster_core.specs.Backups.{Backup}
use Rattle.cluster_core.specs.Jobs.{terms_of}
use Rattle.cluster_core.specs.State.{State, with_put}
use Rattle.cluster_core.specs.Step.{Step}

-- One entry comes at the end, of the newest version.
pub record IsEntered (time : ℕ) (old new : List Entry) : Type 0 where
  pub entry : Entry
  pub newest : entry.version ≡ time
  pub is : new ≡ old ++ entry ∷ []

-- A job goes on. What its command fixed of it never changes.
pub record IsJobChanged (old new : List Job) : Type 0 where
  pub place : ℕ
  pub before : Job
  pub after : Job
  pub found : slice_get old place ≡ Some before
  pub terms : terms_of after ≡ terms_of before
  pub is : new ≡ slice_set old place after

-- A job is started.
pub record IsJobStarted (old new : List Job) : Type 0 where
  pub job : Job
  pub is : new ≡ old ++ job ∷ []

-- A file of a backup's container is put.
pub record IsFilePut (jobs : List Job) (old new : Option (List File)) : Type 0 where
  pub place : ℕ
  pub backup : Backup
  pub found : slice_get jobs place ≡ Some (types.Backup backup)
  pub name : Bytes
  pub bytes : Bytes
  pub is : new ≡ with_put (whole_name backup.container name) bytes old

-- how far time may go on in the step of an event: a tick says it, and the others take a version at
-- most
abbrev pub reach : ℕ → Event → ℕ
reach pace (events.Tick n) = n
reach pace event = pace

-- What a step may touch, whatever it is answered.
pub record Footprint (most : ℕ) (old : State) (answer : Result Answer StepFault) (new : State)
    : Type 0 where
  -- without memory nothing
  pub starved : answer ≡ Err NoMemory → new ≡ old
  -- time goes on so far at most
  pub since : old.time ≤ new.time
  pub upto : new.time ≤ old.time + most
  pub src : (new.src ≡ old.src) ⊎ IsEntered new.time old.src new.src
  pub dst : (new.dst ≡ old.dst) ⊎ IsEntered new.time old.dst new.dst
  -- and on one side alone
  pub sides : (new.src ≡ old.src) ⊎ (new.dst ≡ old.dst)
  pub jobs : (new.jobs ≡ old.jobs)
      ⊎ (IsJobChanged old.jobs new.jobs ⊎ IsJobStarted old.jobs new.jobs)
  pub files : (new.files ≡ old.files) ⊎ IsFilePut old.jobs old.files new.files

-- Each step keeps to it, refused or not.
abbrev pub FootprintLaw : Type 0
FootprintLaw =
    (workload : Workload) (old new : State) (event : Event) (answer : Result Answer StepFault)
    → Step workload old event answer new
    → Footprint (reach workload.settings.pace event) old answer new
