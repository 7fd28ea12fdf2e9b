-- What a replay leaves in the file store wherever it ended.
use Rattle.std.specs.Prelude.{◌≡◌, ◌≢◌, ℕ, List, [], ◌++◌, Option, Some, slice_get}
use Rattle.fb_bytes.specs.Bytes.{Bytes}
use Rattle.fb_outside.specs.declared.File.{File}
use Rattle.container_view.specs.Contents.{file_grammars}
use Rattle.container_view.specs.Honest.{IsFaithfulStore}
use Rattle.workload_text.specs.declared.ScheduleLine.{ScheduleLine}
use Rattle.workload_text.specs.declared.ScheduleLine.TheVariants as lines
use Rattle.workload_text.specs.declared.Workload.{Workload}
use Rattle.cluster_core.specs.Elsewhere.{told_of, IsOutside}
use Rattle.cluster_core.specs.declared.Job.TheVariants as types
use Rattle.cluster_core.specs.Backups.{Backup}
use Rattle.cluster_core.specs.Drain.{DrainRun}
use Rattle.cluster_core.specs.State.{State, history_on, opening}
use Rattle.cluster_core.specs.Step.{Turn}
use Rattle.cluster_core.specs.Sound.{source_of}
use Rattle.report_text.specs.declared.EventLine.{EventLine}
use Rattle.fb_cli.specs.Causes.{HaveCauses}
use Rattle.fb_cli.specs.Outside.{Store}
use Rattle.fb_cli.specs.Runs.{Tells, schedule_of}

-- From old, a line of a schedule for which there was no memory leaves new: it changes nothing, but a
-- drain has made turns before.
pub record Starves (workload : Workload) (old : State) (line : ScheduleLine) (new : State)
    : Type 0 where
  pub turns : List Turn
  pub run : DrainRun workload old turns new
  pub drain : turns ≢ [] → line ≡ lines.Drain

-- From old, the machine went through a front of this schedule, and came to new. `before` and
-- `after` are the store's counts of faults.
pub record PlaysFront
    (workload : Workload)
    (old : State)
    (schedule : List ScheduleLine)
    (new : State)
    (before after : ℕ) : Type 0 where
  pub told : List EventLine
  pub rest : List ScheduleLine
  pub front : schedule ≡ schedule_of told ++ rest
  pub middle : State
  pub run : Tells workload old told middle
  -- turns of a drain, which comes next, that want of memory stopped
  pub turns : List Turn
  pub stopped : DrainRun workload middle turns new
  pub drain : turns ≢ [] → slice_get rest 0 ≡ Some lines.Drain
  pub causes : HaveCauses told before after

-- In this state each version that a backup's container advertises restores, from the bytes of the
-- store's files, to what the history of its database has at that version in its ranges.
abbrev pub AreFaithfulIn : ℕ → Option (List File) → State → Type 0
AreFaithfulIn block after state =
    (files : List File) → after ≡ Some files →
    (place : ℕ) (backup : Backup) → slice_get state.jobs place ≡ Some (types.Backup backup) →
    IsFaithfulStore file_grammars
    (source_of block state.time (history_on backup.side state) backup)
    backup.container
    files

-- The store is as a run over a front of the workload's schedule left it: the containers of its jobs
-- are faithful, and all other files are as they were.
pub record LeavesFront (workload : Workload) (store : Store) : Type 0 where
  pub final : State
  pub played : PlaysFront workload (opening workload store.before) workload.schedule final
      store.faults_before store.faults_after
  pub stored : store.after ≡ final.files
  pub faithful : AreFaithfulIn workload.settings.block store.after final
  pub elsewhere : (name : Bytes) → IsOutside final.jobs name →
      told_of store.after name ≡ told_of store.before name
