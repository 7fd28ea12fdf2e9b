-- What a line says behind its first word, or the first reason why it isn't allowed. A line is
-- tested for each reason over all of its words before the next reason.
use Rattle.std.specs.Prelude.{ℕ, not, List, [], ◌∷◌, ◌++◌, length}
use Rattle.std.specs.Prelude.{codes, Option, Some, None, Ok, nat_le, if◌then◌else◌}
use Rattle.std.specs.List.{list_all}
use Rattle.atomic_ops.specs.declared.Op as atomics
use Rattle.fb_bytes.specs.declared.KeyRange.{KeyRange}
use Rattle.fb_bytes.specs.Bytes.{Bytes, is_same}
use Rattle.fb_bytes.specs.Joining.{joined}
use Rattle.fb_bytes.specs.Keys.{user_end, is_backwards, is_past_user}
use Rattle.fb_bytes.specs.Limits.{most_number}
use Rattle.mutations.specs.declared.Mutation.TheVariants.{Set, ClearRange, Atomic}
use Rattle.mutations.specs.declared.TxOp.TheVariants.{Get, SnapshotGet, Scan, Write}
use Rattle.workload_text.specs.declared.command.Command.{Command}
use Rattle.workload_text.specs.declared.command.Command.TheVariants as commands
use Rattle.workload_text.specs.declared.command_kind.CommandKind.{CommandKind}
use Rattle.workload_text.specs.declared.command_kind.CommandKind.TheVariants as kinds
use Rattle.workload_text.specs.declared.schedule.EventKind.{EventKind}
use Rattle.workload_text.specs.declared.schedule.EventKind.TheVariants as events
use Rattle.workload_text.specs.declared.setting.SettingKind.{SettingKind}
use Rattle.workload_text.specs.declared.setting.Setting.TheVariants as settings
use Rattle.workload_text.specs.declared.keyword.ReadKind.{ReadKind}
use Rattle.workload_text.specs.declared.keyword.ReadKind.TheVariants as reads
use Rattle.workload_text.specs.declared.keyword.WriteKind.{WriteKind}
use Rattle.workload_text.specs.declared.keyword.WriteKind.TheVariants as writes
use Rattle.workload_text.specs.declared.keyword.Keyword.{Keyword}
use Rattle.workload_text.specs.declared.keyword.Keyword.TheVariants as words
use Rattle.workload_text.specs.declared.line.Line.{Line}
use Rattle.workload_text.specs.declared.line.Line.TheVariants.{Setting, Client}
use Rattle.workload_text.specs.declared.line.Line.TheVariants.{Txn, Op, Operator}
use Rattle.workload_text.specs.declared.line.Line.TheVariants.{Order, Schedule, Event}
use Rattle.workload_text.specs.declared.text_fault.TextKind.TheVariants as why
use Rattle.workload_text.specs.Commands.{is_short}
use Rattle.workload_text.specs.Faults.{Read, refuse, where_so}
use Rattle.workload_text.specs.Numbers.{number_of, within}
use Rattle.workload_text.specs.Settings.{is_allowed}
use Rattle.workload_text.specs.Words.{◌>>=◌, bytes_of, name_of, side_of, mode_of, no_words}
use Rattle.workload_text.specs.Words.{one_word}
use Rattle.workload_text.specs.Words.{next_word, two_words, three_words, four_words, are_paired}
use Rattle.workload_text.specs.Words.{any_number, two_numbers, range_of}

-- ---- settings

abbrev pub if_allowed : SettingKind → ℕ → Read Line
if_allowed kind n =
    where_so why.Range (is_allowed kind n) (Ok (Setting (settings.Number kind n)))

abbrev pub setting_said : SettingKind → List Bytes → Read Line
setting_said kind list = do
  word ← one_word list
  n ← any_number word
  if_allowed kind n

-- the death of an agent after a turn, from 1 on
abbrev pub death_said : List Bytes → Read Line
death_said list = do
  two ← two_words list
  a ← number_of two.0
  t ← number_of two.1
  agent ← within 0 most_number a
  turn ← within 1 most_number t
  Ok (Setting (settings.Death agent turn))

-- the stall of an agent after a turn, from 1 on, for at most 1,000,000 turns
abbrev pub stall_said : List Bytes → Read Line
stall_said list = do
  three ← three_words list
  a ← number_of three.0
  t ← number_of three.1
  m ← number_of three.2
  agent ← within 0 most_number a
  turn ← within 1 most_number t
  turns ← within 0 1000000 m
  Ok (Setting (settings.Stall agent turn turns))

-- ---- clients

-- a client on a database; its number is the next one, or the line has no place here
abbrev pub client_said : List Bytes → Read Line
client_said list = do
  two ← two_words list
  n ← any_number two.0
  side ← side_of two.1
  Ok (Client side)

-- the range that two words spell, where its begin is below its end
abbrev pub forward_range : Bytes → Bytes → Read KeyRange
forward_range begin end = do
  range ← range_of begin end
  where_so why.Backwards (not (is_backwards range)) (Ok range)

abbrev pub scan_said : List Bytes → Read Line
scan_said list = do
  three ← three_words list
  n ← number_of three.2
  limit ← within 1 1000 n
  range ← forward_range three.0 three.1
  Ok (Op (Scan range limit))

abbrev pub read_said : ReadKind → List Bytes → Read Line
read_said reads.Get list = do
  word ← one_word list
  key ← bytes_of word
  Ok (Op (Get key))
read_said reads.SnapshotGet list = do
  word ← one_word list
  key ← bytes_of word
  Ok (Op (SnapshotGet key))
read_said reads.Scan list = scan_said list

abbrev pub set_said : List Bytes → Read Line
set_said list = do
  two ← two_words list
  key ← bytes_of two.0
  value ← bytes_of two.1
  Ok (Op (Write (Set key value)))

-- A clear of one key ends at that key and a byte 0.
abbrev pub clear_said : List Bytes → Read Line
clear_said list = do
  word ← one_word list
  key ← bytes_of word
  Ok (Op (Write (ClearRange key (key ++ 0 ∷ []))))

abbrev pub clear_range_said : List Bytes → Read Line
clear_range_said list = do
  two ← two_words list
  range ← forward_range two.0 two.1
  Ok (Op (Write (ClearRange range.begin range.end)))

abbrev pub atomic_said : atomics.Op → List Bytes → Read Line
atomic_said op list = do
  two ← two_words list
  key ← bytes_of two.0
  param ← bytes_of two.1
  Ok (Op (Write (Atomic op key param)))

abbrev pub write_said : WriteKind → List Bytes → Read Line
write_said writes.Set list = set_said list
write_said writes.Clear list = clear_said list
write_said writes.ClearRange list = clear_range_said list
write_said (writes.Atomic op) list = atomic_said op list

-- ---- ranges of the operator's

-- the ranges that words spell, two for each
abbrev pub list_of : List Bytes → Read (List KeyRange)
list_of [] = Ok []
list_of (begin ∷ []) = refuse why.Count
list_of (begin ∷ end ∷ list) = do
  range ← range_of begin end
  ranges ← list_of list
  Ok (range ∷ ranges)

abbrev pub whole_space : KeyRange
whole_space = record { begin = []; end = user_end }

-- no ranges stand for the whole user space
abbrev pub or_whole_space : List KeyRange → List KeyRange
or_whole_space [] = whole_space ∷ []
or_whole_space ranges = ranges

-- ranges of the operator's: within the limit on keys, forward, of user keys; at most so many
abbrev pub allowed_ranges : ℕ → ℕ → List KeyRange → Read (List KeyRange)
allowed_ranges limit most ranges =
    where_so why.Long (list_all (is_short limit) ranges)
    (where_so why.Backwards (list_all (λ range. not (is_backwards range)) ranges)
    (where_so why.Past (list_all (λ range. not (is_past_user range)) ranges)
    (where_so why.Many (nat_le (length ranges) most) (Ok ranges))))

-- the ranges of a job, of which there are at most 1,000, joined
abbrev pub job_ranges : ℕ → List Bytes → Read (List KeyRange)
job_ranges limit list = do
  ranges ← list_of list
  allowed ← allowed_ranges limit 1000 (or_whole_space ranges)
  Ok (joined allowed)

-- ---- commands

-- the tag of a command with nothing else
abbrev pub tag_said : List Bytes → Read Bytes
tag_said list = one_word list >>= name_of

abbrev pub tagged : (Bytes → Command) → List Bytes → Read Line
tagged command list = do
  tag ← tag_said list
  Ok (Order (command tag))

abbrev pub dump_said : ℕ → List Bytes → Read Line
dump_said limit list = do
  three ← three_words list
  tag ← name_of three.0
  piece ← range_of three.1 three.2
  allowed ← allowed_ranges limit 1 (piece ∷ [])
  Ok (Order (commands.Dump tag piece))

abbrev pub open_said : ℕ → List Bytes → Read Line
open_said limit list = do
  t ← next_word list
  d ← next_word t.1
  c ← next_word d.1
  where_so why.Count (are_paired c.1) do
    side ← side_of d.0
    tag ← name_of t.0
    container ← name_of c.0
    ranges ← job_ranges limit c.1
    Ok (Order (commands.Open tag side container ranges))

abbrev pub backup_said : ℕ → List Bytes → Read Line
backup_said limit list = do
  t ← next_word list
  d ← next_word t.1
  c ← next_word d.1
  m ← next_word c.1
  where_so why.Count (are_paired m.1) do
    side ← side_of d.0
    continuous ← mode_of (codes "continuous") (codes "once") m.0
    tag ← name_of t.0
    container ← name_of c.0
    ranges ← job_ranges limit m.1
    Ok (Order (commands.Backup tag side container continuous ranges))

abbrev pub dr_said : ℕ → List Bytes → Read Line
dr_said limit list = do
  t ← next_word list
  d ← next_word t.1
  where_so why.Count (are_paired d.1) do
    side ← side_of d.0
    tag ← name_of t.0
    ranges ← job_ranges limit d.1
    Ok (Order (commands.Dr tag side ranges))

abbrev pub expire_said : List Bytes → Read Line
expire_said list = do
  four ← four_words list
  numbers ← two_numbers four.1 four.2
  force ← mode_of (codes "force") (codes "safe") four.3
  container ← name_of four.0
  Ok (Order (commands.Expire container numbers.0 numbers.1 force))

-- `latest` is no number
abbrev pub version_of : Bytes → Read (Option ℕ)
version_of word =
    if is_same word (codes "latest") then Ok None else do
      n ← any_number word
      Ok (Some n)

abbrev pub restore_said : List Bytes → Read Line
restore_said list = do
  four ← four_words list
  version ← version_of four.3
  side ← side_of four.1
  tag ← name_of four.0
  container ← name_of four.2
  Ok (Order (commands.Restore tag side container version))

abbrev pub command_said : ℕ → CommandKind → List Bytes → Read Line
command_said limit kinds.Open list = open_said limit list
command_said limit kinds.Dump list = dump_said limit list
command_said limit kinds.Cut list = tagged commands.Cut list
command_said limit kinds.Seal list = tagged commands.Seal list
command_said limit kinds.Backup list = backup_said limit list
command_said limit kinds.Snapshot list = tagged commands.Snapshot list
command_said limit kinds.Discontinue list = tagged commands.Discontinue list
command_said limit kinds.Abort list = tagged commands.Abort list
command_said limit kinds.Pause list = no_words list (Order commands.Pause)
command_said limit kinds.Resume list = no_words list (Order commands.Resume)
command_said limit kinds.Wait list = tagged commands.Wait list
command_said limit kinds.Status list = tagged commands.Status list
command_said limit kinds.Expire list = expire_said list
command_said limit kinds.Restore list = restore_said list
command_said limit kinds.Dr list = dr_said limit list
command_said limit kinds.Switch list = tagged commands.Switch list
command_said limit kinds.Lag list = tagged commands.Lag list

-- ---- events

abbrev pub event_alone : EventKind → List Bytes → Read Line
event_alone kind list = no_words list (Event kind 0 0)

abbrev pub event_numbered : EventKind → List Bytes → Read Line
event_numbered kind list = do
  word ← one_word list
  n ← any_number word
  Ok (Event kind n 0)

abbrev pub claim_said : List Bytes → Read Line
claim_said list = do
  two ← two_words list
  numbers ← two_numbers two.0 two.1
  Ok (Event events.Claim numbers.0 numbers.1)

-- the event has no number, or two; any other has one
abbrev pub event_said : EventKind → List Bytes → Read Line
event_said events.Op list = event_alone events.Op list
event_said events.Drain list = event_alone events.Drain list
event_said events.Claim list = claim_said list
event_said kind list = event_numbered kind list

-- ---- lines

-- what a keyword says with the words behind it, where keys of the operator's have such a limit
abbrev pub said : ℕ → Keyword → List Bytes → Read Line
said limit (words.Setting kind) list = setting_said kind list
said limit words.Death list = death_said list
said limit words.Stall list = stall_said list
said limit words.Client list = client_said list
said limit words.Txn list = no_words list Txn
said limit (words.Read kind) list = read_said kind list
said limit (words.Write kind) list = write_said kind list
said limit words.Operator list = no_words list Operator
said limit (words.Command kind) list = command_said limit kind list
said limit words.Schedule list = no_words list Schedule
said limit (words.Event kind) list = event_said kind list
