-- That no step changes a file outside the containers of the jobs.
use Rattle.std.specs.Prelude.{◌≡◌, List, Option, Some, None, option_map, Result, is_some}
use Rattle.std.specs.List.{AllByRecursion}
use Rattle.fb_bytes.specs.Bytes.{Bytes}
use Rattle.fb_outside.specs.Files.{file_of}
use Rattle.fb_outside.specs.declared.File.{File}
use Rattle.container_view.specs.Files.{name_in}
use Rattle.workload_text.specs.declared.Workload.{Workload}
use Rattle.cluster_core.specs.declared.event.Answer.{Answer}
use Rattle.cluster_core.specs.declared.event.Event.{Event}
use Rattle.cluster_core.specs.declared.event.StepFault.{StepFault}
use Rattle.cluster_core.specs.declared.job.Job.{Job}
use Rattle.cluster_core.specs.Jobs.{terms_of, started}
use Rattle.cluster_core.specs.State.{State}
use Rattle.cluster_core.specs.Step.{Step, Turn, Run}

-- what a store tells of the file of a name, where it tells its files
abbrev pub told_of : Option (List File) → Bytes → Option (Option Bytes)
told_of files name = option_map (λ (told : List File). file_of told name) files

-- the name isn't in this container
abbrev pub IsApart : Bytes → Option Bytes → Type 0
IsApart name None = Unit {0}
IsApart name (Some container) = name_in container name ≡ None

-- the name is in no container that a job started
abbrev pub IsOutside : List Job → Bytes → Type 0
IsOutside jobs name = AllByRecursion (λ (job : Job). IsApart name (started (terms_of job))) jobs

-- What is kept from one state to a later one: a name outside the containers of the later jobs was
-- outside before, and its file is as it was. A store that tells its files goes on telling.
pub record KeepsElsewhere (old new : State) : Type 0 where
  pub outside : (name : Bytes) → IsOutside new.jobs name → IsOutside old.jobs name
  pub same : (name : Bytes) → IsOutside new.jobs name
      → told_of new.files name ≡ told_of old.files name
  pub telling : is_some new.files ≡ is_some old.files

pub record ElsewhereLaw : Type 0 where
  -- each step keeps it, refused or not, and so does every run
  pub step : (workload : Workload) (old new : State) (event : Event)
      (answer : Result Answer StepFault)
      → Step workload old event answer new → KeepsElsewhere old new
  pub run : (workload : Workload) (old new : State) (turns : List Turn) → Run workload old turns new
      → KeepsElsewhere old new
