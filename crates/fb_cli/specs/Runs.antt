-- What the report of a run says.
use Rattle.std.specs.Prelude.{◌≡◌, ◌≢◌, ℕ, suc, List, [], ◌∷◌, map, Option, Some, None, Err}
use Rattle.std.specs.Prelude.{option_map, slice_get, if◌then◌else◌}
use Rattle.std.specs.List.{AllByRecursion, flat_map}
use Rattle.fb_bytes.specs.Bytes.{Bytes}
use Rattle.fb_bytes.specs.declared.KeyRange.{KeyRange}
use Rattle.workload_text.specs.declared.Side.{Side}
use Rattle.fb_outside.specs.declared.File.{File}
use Rattle.container_view.specs.Contents.{file_grammars}
use Rattle.container_view.specs.Honest.{IsFaithfulStore}
use Rattle.container_view.specs.Law.{Source}
use Rattle.workload_text.specs.declared.ScheduleLine.{ScheduleLine}
use Rattle.workload_text.specs.declared.ScheduleLine.TheVariants as lines
use Rattle.workload_text.specs.declared.Settings.{Settings}
use Rattle.workload_text.specs.declared.Workload.{Workload}
use Rattle.workload_text.specs.declared.ClientScript.{ClientScript}
use Rattle.client_core.specs.Clients.{Told}
use Rattle.client_core.specs.Clients as clients
use Rattle.client_core.specs.Legal.{Ground, entries_by, IsLegal}
use Rattle.cluster_core.specs.declared.Event.{Event}
use Rattle.cluster_core.specs.declared.Event.TheVariants as events
use Rattle.cluster_core.specs.Elsewhere.{told_of, IsApart}
use Rattle.cluster_core.specs.Jobs.{JobTold, job_told, started, is_on}
use Rattle.cluster_core.specs.State.{State, on_side, opening}
use Rattle.cluster_core.specs.Step.{Turn, Run}
use Rattle.cluster_core.specs.Drain.{Drains}
use Rattle.cluster_core.specs.Sound.{IsOrdered, other_side}
use Rattle.workload_text.specs.declared.CommandKind.{CommandKind}
use Rattle.workload_text.specs.Kinds.{kind_of}
use Rattle.report_text.specs.declared.EventAnswer.{EventAnswer}
use Rattle.report_text.specs.declared.EventAnswer.TheVariants.{Step, Drain}
use Rattle.report_text.specs.declared.EventLine.{EventLine}
use Rattle.report_text.specs.declared.RunReport.{RunReport}
use Rattle.report_text.specs.declared.Report.{Report}
use Rattle.report_text.specs.declared.Report.TheVariants as reports
use Rattle.fb_cli.specs.Causes.{HaveCauses}
use Rattle.fb_cli.specs.Faults.{fault_of, last_fault}
use Rattle.fb_cli.specs.Outside.{Store}
use Rattle.fb_cli.specs.declared.fault.Fault.{Fault}
use Rattle.fb_cli.specs.declared.fault.Fault.TheVariants.{NoMemory}

-- The event of a schedule's line; a drain makes its own. A line that isn't played yet stands for no
-- event: a text with such a line is refused.
abbrev pub event_of : ScheduleLine → Option Event
event_of (lines.Begin client) = Some (events.Begin client)
event_of (lines.Commit client) = Some (events.Commit client)
event_of (lines.Tick n) = Some (events.Tick n)
event_of (lines.Claim agent pick) = Some (events.Claim agent pick)
event_of (lines.Extend agent) = Some (events.Extend agent)
event_of (lines.Die agent) = Some (events.Die agent)
event_of lines.Drain = None
event_of line = Some events.Command

-- the most events that a drain makes
abbrev pub most_turns : ℕ
most_turns = 10000000

-- the kind of the operator's next command in this state, where one is left
abbrev pub next_kind : Workload → State → Option CommandKind
next_kind workload state = option_map kind_of (slice_get workload.operator state.place)

-- the command that a schedule's line makes a step of; those of clients, of time, of agents and a
-- drain name none
abbrev pub command_of : Workload → State → ScheduleLine → Option CommandKind
command_of workload state (lines.Begin client) = None
command_of workload state (lines.Commit client) = None
command_of workload state (lines.Tick n) = None
command_of workload state (lines.Claim agent pick) = None
command_of workload state (lines.Extend agent) = None
command_of workload state (lines.Die agent) = None
command_of workload state lines.Drain = None
command_of workload state line = next_kind workload state

-- a line with its command and its answer
abbrev pub line_told : ScheduleLine → Option CommandKind → EventAnswer → EventLine
line_told line command answer = record { line = line; command = command; reply = answer }

-- the one turn of an event, where this is its answer
abbrev pub IsTurn : Event → EventAnswer → List Turn → Type 0
IsTurn event (Step answer) turns = turns ≡ record { event = event; answer = answer } ∷ []
IsTurn event (Drain result) turns = ⊥

-- the turns of a drain that came to this
abbrev pub DrainTold : Workload → State → EventAnswer → List Turn → State → Type 0
DrainTold workload old (Step answer) turns new = ⊥
DrainTold workload old (Drain result) turns new = Drains workload most_turns old turns result new

-- The turns of the machine that an answer tells: one, of the line's event, or those of a drain.
abbrev pub TurnsTold : Workload → State → Option Event → EventAnswer → List Turn → State → Type 0
TurnsTold workload old (Some event) answer turns new = IsTurn event answer turns
TurnsTold workload old None answer turns new = DrainTold workload old answer turns new

-- From old, a schedule's line may be answered so, and leave new.
pub record Answers
    (workload : Workload)
    (old : State)
    (line : ScheduleLine)
    (answer : EventAnswer)
    (new : State) : Type 0 where
  pub turns : List Turn
  pub told : TurnsTold workload old (event_of line) answer turns new
  pub run : Run workload old turns new

-- An event line tells turns of the machine, for which there was memory, and the command that they
-- were of.
pub record TellsTurns
    (workload : Workload)
    (old : State)
    (line : EventLine)
    (new : State) : Type 0 where
  pub made : Answers workload old line.line line.reply new
  pub memory : fault_of line.reply ≢ Some NoMemory
  pub command : line.command ≡ command_of workload old line.line

-- From old, the event lines tell a run of the machine that ends in new: each goes on from where the
-- one before it came to.
abbrev pub Tells : Workload → State → List EventLine → State → Type 0
Tells workload old [] new = old ≡ new
Tells workload old (line ∷ rest) new =
    (middle : State) × TellsTurns workload old line middle × Tells workload middle rest new

-- the lines of the schedule that these event lines are of
abbrev pub schedule_of : List EventLine → List ScheduleLine
schedule_of told = map (λ (line : EventLine). line.line) told

-- The report tells a run of the machine over the workload's schedule, from its opening state on,
-- and the state in which it ended.
pub record TellsRun (workload : Workload) (store : Store) (report : RunReport) : Type 0 where
  pub final : State
  pub run : Tells workload (opening workload store.before) report.lines final
  pub schedule : schedule_of report.lines ≡ workload.schedule
  -- each command's answers stand in the lines
  pub commands : report.commands ≡ []
  pub src : report.src ≡ final.src
  pub dst : report.dst ≡ final.dst
  pub outcomes : report.outcomes ≡ map clients.told_of final.clients
  pub jobs : report.jobs ≡ map job_told final.jobs
  pub end : report.end ≡ final.time
  pub stored : store.after ≡ final.files

abbrev pub ranges_in : Option (List KeyRange) → List (List KeyRange)
ranges_in None = []
ranges_in (Some ranges) = ranges ∷ []

-- the ranges that a report's job has, where it is of this side
abbrev pub range_told : Side → JobTold → List (List KeyRange)
range_told side job = if is_on side job.terms.side then ranges_in job.terms.ranges else []

-- the ranges of the jobs of a side, as a report tells them
abbrev pub ranges_told : Side → List JobTold → List (List KeyRange)
ranges_told side jobs = flat_map (range_told side) jobs

-- what the clients of a side are measured by: the workload's settings, the jobs that were to log
-- there, and the history
abbrev pub ground_told : Settings → Side → RunReport → Ground
ground_told settings side report =
    record {
      block = settings.block;
      pace = settings.pace;
      tries = settings.tries;
      logged = ranges_told side report.jobs;
      history = on_side side report.src report.dst;
    }

-- The histories of a report are right: their entries stand in the order of their versions, and hold
-- of each client exactly the transactions that it committed, each once, in order, with its version
-- and its writes. Its reads are those of the history, and its faults have causes in it.
pub record HasHistory (workload : Workload) (report : RunReport) : Type 0 where
  pub src : IsOrdered report.end report.src
  pub dst : IsOrdered report.end report.dst
  pub clients : (place : ℕ) (script : ClientScript) (told : Told) →
      slice_get workload.clients place ≡ Some script →
      slice_get report.outcomes place ≡ Some told →
      (told.script ≡ script)
      × IsLegal (ground_told workload.settings script.side report) (suc place) script.txns
      told.outcomes
      × (entries_by (suc place) (on_side (other_side script.side) report.src report.dst) ≡ [])

-- what a job's container is a backup of, by the report: the history of this side's database, in
-- these ranges
abbrev pub source_told : ℕ → RunReport → Side → List KeyRange → Source
source_told block report side ranges =
    record {
      history = on_side side report.src report.dst;
      now = report.end;
      ranges = ranges;
      block = block;
    }

-- Of each job that started a container: each version that the container advertises restores, from
-- the bytes of the store's files, to what the reported history has at that version in the job's
-- ranges.
abbrev pub AreFaithful : ℕ → Option (List File) → RunReport → Type 0
AreFaithful block after report =
    (files : List File) → after ≡ Some files →
    (place : ℕ) (job : JobTold) → slice_get report.jobs place ≡ Some job →
    (container : Bytes) (ranges : List KeyRange) →
    started job.terms ≡ Some container → job.terms.ranges ≡ Some ranges →
    IsFaithfulStore file_grammars (source_told block report job.terms.side ranges) container files

-- The files outside the containers that the report's jobs started are as they were.
abbrev pub AreKeptElsewhere : Option (List File) → Option (List File) → RunReport → Type 0
AreKeptElsewhere before after report =
    (name : Bytes) →
    AllByRecursion (λ (job : JobTold). IsApart name (started job.terms)) report.jobs →
    told_of after name ≡ told_of before name

-- What the report of a run owes to its workload and to the file store.
pub record IsRun (workload : Workload) (store : Store) (report : RunReport) : Type 0 where
  pub told : TellsRun workload store report
  pub history : HasHistory workload report
  pub faithful : AreFaithful workload.settings.block store.after report
  pub elsewhere : AreKeptElsewhere store.before store.after report
  -- each line that says a fault of the store has its cause
  pub causes : HaveCauses report.lines store.faults_before store.faults_after

-- a report of a run of the workload
abbrev pub IsRunReport : Workload → Store → Report → Type 0
IsRunReport workload store (reports.Run report) = IsRun workload store report
IsRunReport workload store report = ⊥

-- the refusal by the answer of a report's last event
abbrev pub fault_in : Report → Option Fault
fault_in (reports.Run report) = last_fault report.lines
fault_in report = None
