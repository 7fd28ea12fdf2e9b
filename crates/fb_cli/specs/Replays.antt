-- What a replay comes to.
use Rattle.std.specs.Prelude.{◌≡◌, ◌≤◌, ℕ, true, [], length, Option, Some, None, Result, Ok, Err, ◌⊎◌}
use Rattle.std.specs.Prelude.{is_some, IsSome, IfSome, IfOk, ◌↔◌}
use Rattle.fb_bytes.specs.Bytes.{Bytes}
use Rattle.fb_outside.specs.Faults.{Counts}
use Rattle.workload_text.specs.declared.Workload.{Workload}
use Rattle.workload_text.specs.Grammar.{Built, what, most_bytes}
use Rattle.report_text.specs.declared.Report.{Report}
use Rattle.fb_cli.specs.Fronts.{LeavesFront}
use Rattle.fb_cli.specs.Later.{is_played, playable}
use Rattle.fb_cli.specs.Outside.{Stream, Store, IsLeft}
use Rattle.fb_cli.specs.Runs.{IsRunReport, fault_in}
use Rattle.fb_cli.specs.declared.fault.Fault.{Fault}
use Rattle.fb_cli.specs.declared.fault.Fault.TheVariants.{Usage, TextRefused, SourceFault}
use Rattle.fb_cli.specs.declared.fault.Fault.TheVariants.{VaultFault}
use Rattle.fb_cli.specs.declared.fault.Fault.TheVariants.{TurnsSpent, VersionsSpent, LogTooLarge}
use Rattle.fb_cli.specs.declared.fault.Fault.TheVariants.{NoMemory, NotBuilt}

-- The schedule was played to its end: there is no refusal but one of its last step.
abbrev pub IsPlayed : Option Fault → Type 0
IsPlayed None = Unit {0}
IsPlayed (Some VaultFault) = Unit {0}
IsPlayed (Some (TurnsSpent turns)) = Unit {0}
IsPlayed (Some (VersionsSpent version)) = Unit {0}
IsPlayed (Some (LogTooLarge bytes)) = Unit {0}
IsPlayed fault = ⊥

-- The text isn't played.
abbrev pub IsRefused : Option Fault → Type 0
IsRefused (Some (TextRefused line kind)) = Unit {0}
IsRefused (Some (NotBuilt line)) = Unit {0}
IsRefused fault = ⊥

-- No step was made, and there was memory.
abbrev pub IsUnplayed : Option Fault → Type 0
IsUnplayed (Some Usage) = Unit {0}
IsUnplayed (Some SourceFault) = Unit {0}
IsUnplayed fault = IsRefused fault

-- A text that isn't too long was read to its end.
abbrev pub ReadsAll : Option Fault → Type 0
ReadsAll None = Unit {0}
ReadsAll (Some VaultFault) = Unit {0}
ReadsAll (Some (TurnsSpent turns)) = Unit {0}
ReadsAll (Some (VersionsSpent version)) = Unit {0}
ReadsAll (Some (LogTooLarge bytes)) = Unit {0}
ReadsAll fault = IsRefused fault

-- the refusals that reading a text may come to
abbrev pub IsOfReading : Option Fault → Type 0
IsOfReading None = Unit {0}
IsOfReading (Some SourceFault) = Unit {0}
IsOfReading (Some NoMemory) = Unit {0}
IsOfReading fault = IsRefused fault

-- the refusals that a replay may come to
abbrev pub IsOfReplay : Option Fault → Type 0
IsOfReplay (Some VaultFault) = Unit {0}
IsOfReplay (Some (TurnsSpent turns)) = Unit {0}
IsOfReplay (Some (VersionsSpent version)) = Unit {0}
IsOfReplay (Some (LogTooLarge bytes)) = Unit {0}
IsOfReplay fault = IsOfReading fault

-- What a text is answered: one that can be played is played, another one has its refusal; want of
-- memory may stand in place of either.
abbrev pub AnswersText : Result Built Fault → Option Fault → Type 0
AnswersText (Ok what) fault = IsPlayed fault ⊎ (fault ≡ Some NoMemory)
AnswersText (Err refusal) fault = (fault ≡ Some refusal) ⊎ (fault ≡ Some NoMemory)

-- All that the workload says is played, and it is what the source's text says, where the source
-- tells it.
pub record IsSaid (text : Option Bytes) (workload : Workload) : Type 0 where
  pub all : is_played (what workload) ≡ true
  pub says : (bytes : Bytes) → text ≡ Some bytes → playable bytes ≡ Ok (what workload)

-- A replay of what a source has left, over a file store.
pub record Replays
    (source : Stream)
    (store : Store)
    (report : Option Report)
    (fault : Option Fault) : Type 0 where
  -- a report comes exactly where the schedule was played, and tells a run of the workload that the
  -- text is
  pub reported : IsSome report ↔ IsPlayed fault
  pub run : IfSome report
      (λ r. (workload : Workload) × IsSaid source.before workload × IsRunReport workload store r)
  -- its last event alone says the refusal
  pub last : IfSome report (λ r. fault ≡ fault_in r)
  -- With a report or without, the store was left alone or is as a run over a front of the
  -- workload's schedule left it.
  pub front : IsLeft store
      ⊎ ((workload : Workload) × IsSaid source.before workload × LeavesFront workload store)
  -- each refusal has its cause
  pub kind : IsOfReplay fault
  pub answer : (bytes : Bytes) → source.before ≡ Some bytes →
      (fault ≡ Some SourceFault) ⊎ AnswersText (playable bytes) fault
  pub count : Counts source.faults_before source.faults_after (fault ≡ Some SourceFault)
  -- a text that isn't too long was read to its end
  pub read : (bytes : Bytes) → source.before ≡ Some bytes → length bytes ≤ most_bytes →
      ReadsAll fault → source.after ≡ Some []

-- What each command owes to the file store.
pub record OwesStore (store : Store) (fault : Option Fault) : Type 0 where
  -- one that tells its files goes on telling, and one that doesn't goes on not telling
  pub telling : is_some store.after ≡ is_some store.before
  pub count : Counts store.faults_before store.faults_after (fault ≡ Some VaultFault)
  -- where no step was made it is as it was
  pub same : IsUnplayed fault → IsLeft store

-- the refusal of a result
abbrev pub fault_of_read : Result Workload Fault → Option Fault
fault_of_read (Ok workload) = None
fault_of_read (Err fault) = Some fault

-- the result is what the text says
abbrev pub SaysText : Result Built Fault → Result Workload Fault → Type 0
SaysText (Ok built) (Ok workload) = built ≡ what workload
SaysText (Err refusal) (Err fault) = fault ≡ refusal
SaysText (Ok built) (Err fault) = ⊥
SaysText (Err refusal) (Ok workload) = ⊥

-- What reading the text of a workload comes to.
pub record ReadsText (source : Stream) (result : Result Workload Fault) : Type 0 where
  pub answer : (bytes : Bytes) → source.before ≡ Some bytes →
      (result ≡ Err SourceFault) ⊎ ((result ≡ Err NoMemory) ⊎ SaysText (playable bytes) result)
  pub all : IfOk result (λ workload. is_played (what workload) ≡ true)
  pub kind : IsOfReading (fault_of_read result)
  pub count : Counts source.faults_before source.faults_after (result ≡ Err SourceFault)
  pub read : (bytes : Bytes) → source.before ≡ Some bytes → length bytes ≤ most_bytes →
      ReadsAll (fault_of_read result) → source.after ≡ Some []
