-- What a command does, and what it writes.
use Rattle.std.specs.Prelude.{◌≡◌, ◌≤◌, ℕ, Bool, [], ◌++◌, Option, Some, None, ◌⊎◌}
use Rattle.fb_bytes.specs.Bytes.{Bytes}
use Rattle.fb_outside.specs.Contents.{IsFrontOf}
use Rattle.fb_outside.specs.Faults.{Rose}
use Rattle.report_text.specs.declared.Report.{Report}
use Rattle.report_text.specs.Reports.{report_text}
use Rattle.fb_cli.specs.declared.fault.Fault.{Fault}
use Rattle.fb_cli.specs.declared.fault.Fault.TheVariants.{Usage, NotBuilt}
use Rattle.fb_cli.specs.Faults.{status_of, refusal_line}
use Rattle.fb_cli.specs.Outside.{Stream, Store, IsLeft}
use Rattle.fb_cli.specs.Replays.{Replays}
use Rattle.fb_cli.specs.Restores.{Restores}
use Rattle.fb_cli.specs.Describes.{Describes}
use Rattle.fb_cli.specs.Expires.{Expires}
use Rattle.fb_cli.specs.Lists.{Lists}
use Rattle.fb_cli.specs.Requests.{Request, Replay, Restore, Describe, Expire, Listing, Later}
use Rattle.fb_cli.specs.Requests.{Misused}

-- ---- commands

-- A restore; the source isn't read.
pub record IsRestore
    (container : Bytes)
    (version : ℕ)
    (source : Stream)
    (store : Store)
    (report : Option Report)
    (fault : Option Fault) : Type 0 where
  pub restores : Restores container version store report fault
  pub unread : IsLeft source

-- A description; the source isn't read.
pub record IsDescribe
    (container : Bytes)
    (source : Stream)
    (store : Store)
    (report : Option Report)
    (fault : Option Fault) : Type 0 where
  pub describes : Describes container store report fault
  pub unread : IsLeft source

-- An expire; the source isn't read.
pub record IsExpire
    (container : Bytes)
    (cutoff wanted : ℕ)
    (force : Bool)
    (source : Stream)
    (store : Store)
    (report : Option Report)
    (fault : Option Fault) : Type 0 where
  pub expires : Expires container cutoff wanted force store report fault
  pub unread : IsLeft source

-- A list of containers; the source isn't read.
pub record IsListing
    (source : Stream)
    (store : Store)
    (report : Option Report)
    (fault : Option Fault) : Type 0 where
  pub lists : Lists store report fault
  pub unread : IsLeft source

-- The words alone are refused, whatever the source has; it isn't read.
pub record IsTurnedAway
    (refusal : Fault)
    (source : Stream)
    (report : Option Report)
    (fault : Option Fault) : Type 0 where
  pub refused : fault ≡ Some refusal
  pub silent : report ≡ None
  pub unread : IsLeft source

-- what is asked for was done
abbrev pub Does : Request → Stream → Store → Option Report → Option Fault → Type 0
Does (Replay brief) source store report fault = Replays source store report fault
Does (Restore container version) source store report fault =
    IsRestore container version source store report fault
Does (Describe container) source store report fault =
    IsDescribe container source store report fault
Does (Expire container cutoff wanted force) source store report fault =
    IsExpire container cutoff wanted force source store report fault
Does Listing source store report fault = IsListing source store report fault
Does Later source store report fault = IsTurnedAway (NotBuilt 0) source report fault
Does Misused source store report fault = IsTurnedAway Usage source report fault

-- ---- what is written

-- the text of a report, where there is one, in brief or whole
abbrev pub report_part : Bool → Option Report → Bytes
report_part brief None = []
report_part brief (Some report) = report_text brief report

-- what is to be written: the report, and then the refusal's line
abbrev pub shown : Bool → Option Report → Option Fault → Bytes
shown brief report fault = report_part brief report ++ refusal_line fault

-- All was written.
pub record WritesAll
    (brief : Bool)
    (sink : Stream)
    (report : Option Report)
    (fault : Option Fault)
    (status : ℕ) : Type 0 where
  pub status_is : status ≡ status_of fault
  pub later : sink.faults_before ≤ sink.faults_after
  pub all : (bytes : Bytes) → sink.before ≡ Some bytes →
      sink.after ≡ Some (bytes ++ shown brief report fault)

-- The sink failed, and holds a front of it.
pub record SinkFails
    (brief : Bool)
    (sink : Stream)
    (report : Option Report)
    (fault : Option Fault)
    (status : ℕ) : Type 0 where
  pub status_is : status ≡ 4
  pub later : sink.faults_before ≤ sink.faults_after
  pub rose : Rose sink.faults_before sink.faults_after
  pub part : (bytes : Bytes) → sink.before ≡ Some bytes →
      (front : Bytes)
      × (sink.after ≡ Some (bytes ++ front))
      × IsFrontOf (shown brief report fault) front

-- There was no memory for the text, and nothing was written.
pub record WritesNone (sink : Stream) (status : ℕ) : Type 0 where
  pub status_is : status ≡ 12
  pub same : IsLeft sink

-- what a command's end leaves in the sink, and the status
abbrev pub Shows : Bool → Stream → Option Report → Option Fault → ℕ → Type 0
Shows brief sink report fault status =
    WritesAll brief sink report fault status
    ⊎ (SinkFails brief sink report fault status ⊎ WritesNone sink status)
