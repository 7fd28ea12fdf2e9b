-- What is proved of the machine.
use Rattle.std.specs.Prelude.{◌≡◌, ℕ, List, Option, Some, Result, slice_get}
use Rattle.fb_outside.specs.declared.File.{File}
use Rattle.fb_outside.specs.Files.{AreFiles}
use Rattle.container_view.specs.Contents.{file_grammars}
use Rattle.container_view.specs.Honest.{IsFaithfulStore}
use Rattle.workload_text.specs.declared.Workload.{Workload}
use Rattle.cluster_core.specs.declared.event.Event.{Event}
use Rattle.cluster_core.specs.declared.event.Answer.{Answer}
use Rattle.cluster_core.specs.declared.event.StepFault.{StepFault}
use Rattle.cluster_core.specs.declared.job.Job.TheVariants as types
use Rattle.cluster_core.specs.Backups.{Backup}
use Rattle.cluster_core.specs.State.{State, history_on, opening}
use Rattle.cluster_core.specs.Step.{Step, Turn, Run}
use Rattle.cluster_core.specs.Sound.{Sound, source_of}

-- The opening state of each workload is sound, whatever files there are.
abbrev pub OpeningLaw : Type 0
OpeningLaw =
    (workload : Workload) (files : Option (List File))
    → ((told : List File) → files ≡ Some told → AreFiles told)
    → Sound workload (opening workload files)

-- Each step keeps it, refused or not.
abbrev pub StepLaw : Type 0
StepLaw =
    (workload : Workload) (old new : State) (event : Event) (answer : Result Answer StepFault)
    → Step workload old event answer new → Sound workload old → Sound workload new

-- So every run keeps it.
abbrev pub RunLaw : Type 0
RunLaw =
    (workload : Workload) (old new : State) (turns : List Turn) → Run workload old turns new
    → Sound workload old → Sound workload new

-- In a sound state the container of each backup is faithful to the history of its database, cut to
-- the backup's ranges.
abbrev pub FaithfulLaw : Type 0
FaithfulLaw =
    (workload : Workload) (state : State) (files : List File) → Sound workload state
    → state.files ≡ Some files → (place : ℕ) (backup : Backup)
    → slice_get state.jobs place ≡ Some (types.Backup backup)
    → IsFaithfulStore file_grammars
    (source_of workload.settings.block state.time (history_on backup.side state) backup)
    backup.container files
