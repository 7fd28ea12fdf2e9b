-- The lines of a schedule's events.
use Rattle.std.specs.Prelude.{ℕ, List, [], ◌∷◌, ◌++◌, Option, Some, None, Result, Ok, Err, codes}
use Rattle.std.specs.Prelude.{decimal}
use Rattle.fb_bytes.specs.Bytes.{Bytes}
use Rattle.fb_bytes.specs.Words.{printed}
use Rattle.workload_text.specs.declared.ScheduleLine.{ScheduleLine}
use Rattle.workload_text.specs.declared.ScheduleLine.TheVariants as events
use Rattle.task_kinds.specs.declared.JobState.{JobState}
use Rattle.task_kinds.specs.Kinds.{word_of}
use Rattle.cluster_core.specs.declared.Refusal.{Refusal}
use Rattle.cluster_core.specs.declared.Refusal.TheVariants as refusals
use Rattle.cluster_core.specs.declared.Refusal.TheVariants.{TagBusy, ContainerTaken, ContainerInUse}
use Rattle.cluster_core.specs.declared.Refusal.TheVariants.{NoJob, WrongState, OutsideRanges}
use Rattle.cluster_core.specs.declared.Refusal.TheVariants.{Overlap, NothingNew, Untiled}
use Rattle.cluster_core.specs.declared.Answer.{Answer}
use Rattle.cluster_core.specs.declared.Answer.TheVariants.{Nothing, Read, Outcome, Done, Placed}
use Rattle.cluster_core.specs.declared.Answer.TheVariants.{Version, NoTask, Paused, Task, Until}
use Rattle.cluster_core.specs.declared.Answer.TheVariants.{Taken, Loaded, Closed, Interrupted, Dead}
use Rattle.cluster_core.specs.declared.Answer.TheVariants.{Going, Refused, State, Lag}
use Rattle.cluster_core.specs.declared.DrainFault.{DrainFault}
use Rattle.cluster_core.specs.declared.DrainFault.TheVariants as drains
use Rattle.cluster_core.specs.declared.StepFault.{StepFault}
use Rattle.cluster_core.specs.declared.StepFault.TheVariants.{VaultFault, VersionsSpent}
use Rattle.cluster_core.specs.declared.StepFault.TheVariants.{LogTooLarge}
use Rattle.cluster_core.specs.declared.StepFault.TheVariants.{NoMemory}
use Rattle.workload_text.specs.declared.CommandKind.{CommandKind}
use Rattle.workload_text.specs.Kinds.{command_word}
use Rattle.report_text.specs.declared.event_answer.EventAnswer.{EventAnswer}
use Rattle.report_text.specs.declared.event_answer.EventAnswer.TheVariants.{Step, Drain}
use Rattle.report_text.specs.declared.report.EventLine.{EventLine}
use Rattle.report_text.specs.Lines.{line}
use Rattle.report_text.specs.Outcomes.{end_words}
use Rattle.report_text.specs.Faults.{file_fault_words}
use Rattle.report_text.specs.Jobs.{state_word, kind_word}
use Rattle.report_text.specs.Descriptions.{number_or_none}

-- no word where no command was left
abbrev pub command_words : Option CommandKind → List Bytes
command_words None = []
command_words (Some kind) = command_word kind ∷ []

-- what came, and the command of an operator's step
abbrev pub event_words : ScheduleLine → Option CommandKind → List Bytes
event_words (events.Begin client) command = codes "begin" ∷ decimal client ∷ []
event_words (events.Commit client) command = codes "commit" ∷ decimal client ∷ []
event_words (events.Tick n) command = codes "tick" ∷ decimal n ∷ []
event_words (events.Claim agent pick) command =
    codes "claim" ∷ decimal agent ∷ decimal pick ∷ []
event_words (events.Extend agent) command = codes "extend" ∷ decimal agent ∷ []
event_words (events.Take agent) command = codes "take" ∷ decimal agent ∷ []
event_words (events.Place agent) command = codes "place" ∷ decimal agent ∷ []
event_words (events.Close agent) command = codes "close" ∷ decimal agent ∷ []
event_words (events.Die agent) command = codes "die" ∷ decimal agent ∷ []
event_words events.Op command = codes "op" ∷ command_words command
event_words events.Drain command = codes "drain" ∷ []

-- why a command was refused
abbrev pub refusal_words : Refusal → List Bytes
refusal_words (TagBusy tag) = codes "tag-busy" ∷ tag ∷ []
refusal_words (ContainerTaken tag) = codes "container-taken" ∷ tag ∷ []
refusal_words (ContainerInUse name) = codes "container-in-use" ∷ name ∷ []
refusal_words (NoJob tag) = codes "no-job" ∷ tag ∷ []
refusal_words (refusals.WrongKind kind) = codes "wrong-kind" ∷ kind_word kind ∷ []
refusal_words (WrongState state) = codes "wrong-state" ∷ state_word state ∷ []
refusal_words (OutsideRanges key) = codes "outside-ranges" ∷ printed key ∷ []
refusal_words (Overlap key) = codes "overlap" ∷ printed key ∷ []
refusal_words (NothingNew version) = codes "nothing-new" ∷ decimal version ∷ []
refusal_words (Untiled key) = codes "untiled" ∷ printed key ∷ []
refusal_words refusals.Switching = codes "switching" ∷ []
refusal_words refusals.Paused = codes "paused" ∷ []
refusal_words (refusals.AheadOfNow now) = codes "ahead-of-now" ∷ decimal now ∷ []
refusal_words (refusals.RestoreRunning tag) = codes "restore-running" ∷ tag ∷ []
refusal_words refusals.NoContainer = codes "no-container" ∷ []
refusal_words (refusals.NotRestorable min max) =
    codes "not-restorable" ∷ number_or_none min ∷ number_or_none max ∷ []
refusal_words (refusals.Damaged name fault) = codes "damaged" ∷ name ∷ file_fault_words fault
refusal_words (refusals.Missing name) = codes "missing" ∷ name ∷ []
refusal_words (refusals.CannotExpire wanted left) =
    codes "cannot-expire" ∷ decimal wanted ∷ number_or_none left ∷ []
refusal_words (refusals.SourceLocked uid) = codes "source-locked" ∷ decimal uid ∷ []
refusal_words (refusals.DestinationLocked uid) = codes "destination-locked" ∷ decimal uid ∷ []
refusal_words (refusals.DestinationNotEmpty key) =
    codes "destination-not-empty" ∷ printed key ∷ []
refusal_words (refusals.NotCopied applied) = codes "not-copied" ∷ decimal applied ∷ []

-- the state of the newest job with a tag, where there is one
abbrev pub status_word : Option JobState → Bytes
status_word None = codes "never-ran"
status_word (Some state) = state_word state

-- what a step was answered
abbrev pub answer_words : Answer → List Bytes
answer_words Nothing = codes "none" ∷ []
answer_words (Read version) = codes "read" ∷ decimal version ∷ []
answer_words (Outcome outcome) = end_words outcome.end
answer_words (Version version) = codes "version" ∷ decimal version ∷ []
answer_words NoTask = codes "no-task" ∷ []
answer_words Paused = codes "paused" ∷ []
answer_words (Task uid kind until) =
    codes "task" ∷ decimal uid ∷ word_of kind ∷ codes "until" ∷ decimal until ∷ []
answer_words (Until until) = codes "until" ∷ decimal until ∷ []
answer_words (Taken ticket) = codes "taken" ∷ decimal ticket ∷ []
answer_words (Placed name) = codes "placed" ∷ name ∷ []
answer_words Loaded = codes "loaded" ∷ []
answer_words (Closed uid) = codes "closed" ∷ decimal uid ∷ []
answer_words (Interrupted uid) = codes "interrupted" ∷ decimal uid ∷ []
answer_words Dead = codes "dead" ∷ []
answer_words Done = codes "done" ∷ []
answer_words Going = codes "going" ∷ []
answer_words (Refused refusal) = codes "refused" ∷ refusal_words refusal
answer_words (State state) = status_word state ∷ []
answer_words (Lag lag) = codes "lag" ∷ number_or_none lag ∷ []

-- why a step was refused
abbrev pub step_fault_words : StepFault → List Bytes
step_fault_words VaultFault = codes "vault-fault" ∷ []
step_fault_words (VersionsSpent version) = codes "versions-spent" ∷ decimal version ∷ []
step_fault_words (LogTooLarge bytes) = codes "log-too-large" ∷ decimal bytes ∷ []
step_fault_words NoMemory = codes "no-memory" ∷ []

-- the answer, or the fault of a step that was refused
abbrev pub step_words : Result Answer StepFault → List Bytes
step_words (Ok answer) = answer_words answer
step_words (Err fault) = step_fault_words fault

-- how a drain ended
abbrev pub drain_words : Result ℕ DrainFault → List Bytes
drain_words (Ok steps) = codes "steps" ∷ decimal steps ∷ []
drain_words (Err (drains.TurnsSpent turns)) = codes "turns-spent" ∷ decimal turns ∷ []
drain_words (Err (drains.Step fault)) = step_fault_words fault

-- what an event was answered
abbrev pub reply_words : EventAnswer → List Bytes
reply_words (Step answer) = step_words answer
reply_words (Drain result) = drain_words result

-- why an event was refused, where it was
abbrev pub fault_in : EventAnswer → Option DrainFault
fault_in (Step (Ok answer)) = None
fault_in (Step (Err fault)) = Some (drains.Step fault)
fault_in (Drain (Ok steps)) = None
fault_in (Drain (Err fault)) = Some fault

-- an event, and behind an arrow what it was answered
abbrev pub event_line : EventLine → Bytes
event_line event =
    line (event_words event.line event.command ++ codes "->" ∷ reply_words event.reply)
