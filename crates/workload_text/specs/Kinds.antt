-- The operator's commands and the events of a schedule with their words, for both texts.
use Rattle.std.specs.Prelude.{ℕ, List, [], ◌∷◌, codes, find, Option}
use Rattle.fb_bytes.specs.Bytes.{Bytes, is_same}
use Rattle.workload_text.specs.declared.command.Command.{Command}
use Rattle.workload_text.specs.declared.command.Command.TheVariants as commands
pub use Rattle.workload_text.specs.declared.command_kind.CommandKind.{CommandKind}
use Rattle.workload_text.specs.declared.command_kind.CommandKind.TheVariants as kinds
use Rattle.workload_text.specs.declared.schedule.ScheduleLine.{ScheduleLine}
use Rattle.workload_text.specs.declared.schedule.ScheduleLine.TheVariants as lines
pub use Rattle.workload_text.specs.declared.schedule.EventKind.{EventKind}
use Rattle.workload_text.specs.declared.schedule.EventKind.TheVariants as events

-- ---- commands

-- which command it is, whatever its tag and the rest of it
abbrev pub kind_of : Command → CommandKind
kind_of (commands.Open tag side container ranges) = kinds.Open
kind_of (commands.Dump tag piece) = kinds.Dump
kind_of (commands.Cut tag) = kinds.Cut
kind_of (commands.Seal tag) = kinds.Seal
kind_of (commands.Backup tag side container continuous ranges) = kinds.Backup
kind_of (commands.Snapshot tag) = kinds.Snapshot
kind_of (commands.Discontinue tag) = kinds.Discontinue
kind_of (commands.Abort tag) = kinds.Abort
kind_of commands.Pause = kinds.Pause
kind_of commands.Resume = kinds.Resume
kind_of (commands.Wait tag) = kinds.Wait
kind_of (commands.Status tag) = kinds.Status
kind_of (commands.Expire container cutoff wanted force) = kinds.Expire
kind_of (commands.Restore tag side container version) = kinds.Restore
kind_of (commands.Dr tag side ranges) = kinds.Dr
kind_of (commands.Switch tag) = kinds.Switch
kind_of (commands.Lag tag) = kinds.Lag

-- the word that begins the command's line
abbrev pub command_word : CommandKind → Bytes
command_word kinds.Open = codes "open"
command_word kinds.Dump = codes "dump"
command_word kinds.Cut = codes "cut"
command_word kinds.Seal = codes "seal"
command_word kinds.Backup = codes "backup"
command_word kinds.Snapshot = codes "snapshot"
command_word kinds.Discontinue = codes "discontinue"
command_word kinds.Abort = codes "abort"
command_word kinds.Pause = codes "pause"
command_word kinds.Resume = codes "resume"
command_word kinds.Wait = codes "wait"
command_word kinds.Status = codes "status"
command_word kinds.Expire = codes "expire"
command_word kinds.Restore = codes "restore"
command_word kinds.Dr = codes "dr"
command_word kinds.Switch = codes "switch"
command_word kinds.Lag = codes "lag"

-- each command once
abbrev pub every_command : List CommandKind
every_command =
    kinds.Open ∷ kinds.Dump ∷ kinds.Cut ∷ kinds.Seal ∷ kinds.Backup ∷ kinds.Snapshot
    ∷ kinds.Discontinue ∷ kinds.Abort ∷ kinds.Pause ∷ kinds.Resume ∷ kinds.Wait ∷ kinds.Status
    ∷ kinds.Expire ∷ kinds.Restore ∷ kinds.Dr ∷ kinds.Switch ∷ kinds.Lag ∷ []

-- the command of a word, if the word is one's
abbrev pub command_of_word : Bytes → Option CommandKind
command_of_word word = find (λ kind. is_same (command_word kind) word) every_command

-- ---- events

-- which event it is, whatever its numbers
abbrev pub event_kind_of : ScheduleLine → EventKind
event_kind_of (lines.Begin client) = events.Begin
event_kind_of (lines.Commit client) = events.Commit
event_kind_of (lines.Tick n) = events.Tick
event_kind_of (lines.Claim agent pick) = events.Claim
event_kind_of (lines.Extend agent) = events.Extend
event_kind_of (lines.Take agent) = events.Take
event_kind_of (lines.Place agent) = events.Place
event_kind_of (lines.Close agent) = events.Close
event_kind_of (lines.Die agent) = events.Die
event_kind_of lines.Op = events.Op
event_kind_of lines.Drain = events.Drain

-- the word that begins the event's line
abbrev pub event_word : EventKind → Bytes
event_word events.Begin = codes "begin"
event_word events.Commit = codes "commit"
event_word events.Tick = codes "tick"
event_word events.Claim = codes "claim"
event_word events.Extend = codes "extend"
event_word events.Take = codes "take"
event_word events.Place = codes "place"
event_word events.Close = codes "close"
event_word events.Die = codes "die"
event_word events.Op = codes "op"
event_word events.Drain = codes "drain"

-- each event once
abbrev pub every_event : List EventKind
every_event =
    events.Begin ∷ events.Commit ∷ events.Op ∷ events.Tick ∷ events.Claim ∷ events.Extend
    ∷ events.Take ∷ events.Place ∷ events.Close ∷ events.Die ∷ events.Drain ∷ []

-- the event of a word, if the word is one's
abbrev pub event_of_word : Bytes → Option EventKind
event_of_word word = find (λ kind. is_same (event_word kind) word) every_event

-- the numbers in the event's line, where it has them: the client's, the agent's or the ticks, and
-- the pick
abbrev pub numbers_of : ScheduleLine → ℕ × ℕ
numbers_of (lines.Begin client) = (client, 0)
numbers_of (lines.Commit client) = (client, 0)
numbers_of (lines.Tick n) = (n, 0)
numbers_of (lines.Claim agent pick) = (agent, pick)
numbers_of (lines.Extend agent) = (agent, 0)
numbers_of (lines.Take agent) = (agent, 0)
numbers_of (lines.Place agent) = (agent, 0)
numbers_of (lines.Close agent) = (agent, 0)
numbers_of (lines.Die agent) = (agent, 0)
numbers_of lines.Op = (0, 0)
numbers_of lines.Drain = (0, 0)

-- the event of a kind with these numbers
abbrev pub event_with : EventKind → ℕ → ℕ → ScheduleLine
event_with events.Begin a b = lines.Begin a
event_with events.Commit a b = lines.Commit a
event_with events.Tick a b = lines.Tick a
event_with events.Claim a b = lines.Claim a b
event_with events.Extend a b = lines.Extend a
event_with events.Take a b = lines.Take a
event_with events.Place a b = lines.Place a
event_with events.Close a b = lines.Close a
event_with events.Die a b = lines.Die a
event_with events.Op a b = lines.Op
event_with events.Drain a b = lines.Drain
