-- What the program reads and doesn't play yet. Each is to go from here when it is played.
use Rattle.std.specs.Prelude.{ℕ, ◌+◌, Bool, true, false, not, ◌&&◌, List, [], ◌∷◌, Option, Some}
use Rattle.std.specs.Prelude.{None, Result, Ok, Err, if◌then◌else◌}
use Rattle.std.specs.List.{list_all}
use Rattle.fb_bytes.specs.Bytes.{Bytes}
use Rattle.workload_text.specs.declared.Keyword.{Keyword}
use Rattle.workload_text.specs.declared.Keyword.TheVariants as words
use Rattle.workload_text.specs.declared.CommandKind.{CommandKind}
use Rattle.workload_text.specs.declared.CommandKind.TheVariants as commands
use Rattle.workload_text.specs.declared.EventKind.{EventKind}
use Rattle.workload_text.specs.declared.EventKind.TheVariants as events
use Rattle.workload_text.specs.declared.TextFault.{TextFault}
use Rattle.workload_text.specs.declared.TextFault.TheVariants as faults
use Rattle.workload_text.specs.Grammar.{Built, built}
use Rattle.workload_text.specs.Keywords.{keyword_of}
use Rattle.workload_text.specs.Kinds.{kind_of, event_kind_of}
use Rattle.workload_text.specs.Texts.{lines_of, words_of}
use Rattle.fb_cli.specs.declared.fault.Fault.{Fault}
use Rattle.fb_cli.specs.declared.fault.Fault.TheVariants.{TextRefused, NoMemory, NotBuilt}

-- the commands of hand jobs are played, and those that let agents claim nothing or claim again
abbrev pub is_later_command : CommandKind → Bool
is_later_command commands.Open = false
is_later_command commands.Dump = false
is_later_command commands.Cut = false
is_later_command commands.Seal = false
is_later_command commands.Abort = false
is_later_command commands.Pause = false
is_later_command commands.Resume = false
is_later_command commands.Status = false
is_later_command kind = true

-- clients' steps, ticks, the operator's steps and drains are played, and agents' claims, extends
-- and deaths
abbrev pub is_later_event : EventKind → Bool
is_later_event events.Begin = false
is_later_event events.Commit = false
is_later_event events.Tick = false
is_later_event events.Claim = false
is_later_event events.Extend = false
is_later_event events.Die = false
is_later_event events.Op = false
is_later_event events.Drain = false
is_later_event kind = true

-- a line with this first word isn't played yet
abbrev pub is_later : Keyword → Bool
is_later (words.Command kind) = is_later_command kind
is_later (words.Event kind) = is_later_event kind
is_later word = false

abbrev pub is_later_word : Option Keyword → Bool
is_later_word None = false
is_later_word (Some word) = is_later word

abbrev pub are_later : List Bytes → Bool
are_later [] = false
are_later (word ∷ list) = is_later_word (keyword_of word)

-- the first of the lines that isn't played yet, counted on from a number
abbrev pub first_later : ℕ → List Bytes → Option ℕ
first_later number [] = None
first_later number (line ∷ lines) =
    if are_later (words_of line) then Some number else first_later (number + 1) lines

-- ---- what is played of a text

abbrev pub refusal_of_text : TextFault → Fault
refusal_of_text (faults.Refused line kind) = TextRefused line kind
refusal_of_text faults.NoMemory = NoMemory

abbrev pub or_zero : Option ℕ → ℕ
or_zero None = 0
or_zero (Some line) = line

-- whether all that a workload says is played
abbrev pub is_played : Built → Bool
is_played what =
    list_all (λ command. not (is_later_command (kind_of command))) what.operator
    && list_all (λ event. not (is_later_event (event_kind_of event))) what.schedule

abbrev pub playable_of : List Bytes → Result Built TextFault → Result Built Fault
playable_of lines (Ok what) =
    if is_played what then Ok what else Err (NotBuilt (or_zero (first_later 1 lines)))
playable_of lines (Err fault) = Err (refusal_of_text fault)

-- The workload that is played for a text, or why none is: a refusal of the text comes first.
abbrev pub playable : Bytes → Result Built Fault
playable text = playable_of (lines_of text) (built false text)
