-- What the lines of a text so far say, and what a further line makes of it.
use Rattle.std.specs.Prelude.{ℕ, ◌+◌, Bool, true, false, not, ◌&&◌, ◌||◌, List, [], ◌∷◌}
use Rattle.std.specs.Prelude.{◌++◌, length}
use Rattle.std.specs.Prelude.{Option, Some, None, Result, Ok, Err, nat_eq, nat_le, nat_lt}
use Rattle.std.specs.Prelude.{slice_index, if◌then◌else◌}
use Rattle.std.specs.List.{list_all}
use Rattle.fb_bytes.specs.Bytes.{Bytes}
use Rattle.fb_bytes.specs.Results.{found_or}
use Rattle.file_names.specs.Reading.{value_after}
use Rattle.mutations.specs.declared.TxOp.{TxOp}
use Rattle.mutations.specs.declared.TxOp.TheVariants.{Write}
use Rattle.workload_text.specs.declared.client_script.ClientScript.{ClientScript}
use Rattle.workload_text.specs.declared.client_script.Side.{Side}
use Rattle.workload_text.specs.declared.client_script.Side.TheVariants.{Src}
use Rattle.workload_text.specs.declared.command.Command.{Command}
use Rattle.workload_text.specs.declared.schedule.ScheduleLine.{ScheduleLine}
use Rattle.workload_text.specs.declared.schedule.EventKind.{EventKind}
use Rattle.workload_text.specs.declared.schedule.EventKind.TheVariants as events
use Rattle.workload_text.specs.declared.setting.Setting.{Setting}
use Rattle.workload_text.specs.declared.setting.SettingKind.TheVariants as kinds
use Rattle.workload_text.specs.declared.keyword.Keyword.{Keyword}
use Rattle.workload_text.specs.declared.keyword.Keyword.TheVariants as words
use Rattle.workload_text.specs.declared.line.Line.{Line}
use Rattle.workload_text.specs.declared.line.Line.TheVariants as lines
use Rattle.workload_text.specs.declared.part.Part.{Part}
use Rattle.workload_text.specs.declared.part.Part.TheVariants as parts
use Rattle.workload_text.specs.declared.text_fault.TextFault.{TextFault}
use Rattle.workload_text.specs.declared.text_fault.TextFault.TheVariants as faults
use Rattle.workload_text.specs.declared.text_fault.TextKind.TheVariants as why
use Rattle.workload_text.specs.declared.line_fault.LineFault.TheVariants.{Refused, NoMemory}
use Rattle.workload_text.specs.Faults.{LineFault, Read, where_so}
use Rattle.workload_text.specs.Keywords.{keyword_of}
use Rattle.workload_text.specs.Kinds.{event_with}
use Rattle.workload_text.specs.Lines.{said}
use Rattle.workload_text.specs.Numbers.{is_decimal, if_small}
use Rattle.workload_text.specs.Settings.{number_for, limit_for, comes_in, has_agent}
use Rattle.workload_text.specs.Texts.{words_of, is_text_byte}
use Rattle.workload_text.specs.Words.{◌>>=◌}

-- The part of the text that the last line was of: the settings (or no line), a client's own line or
-- a transaction that is complete, a transaction without a write, one with a write, the operator,
-- the schedule. (`Part` of `src/part.rt`: Settings, Client, Reads, Writes, Operator, Schedule.)

-- what the lines so far say
pub record Sofar : Type 0 where
  pub part : Part
  pub settings : List Setting
  -- the clients that are complete
  pub clients : List ClientScript
  -- of the client that may go on: its database, its complete transactions, and the operations of
  -- the one that may go on
  pub side : Side
  pub txns : List (List TxOp)
  pub ops : List TxOp
  pub operator : List Command
  pub schedule : List ScheduleLine

-- before a text's first line
abbrev pub at_start : Sofar
at_start = record {
  part = parts.Settings;
  settings = [];
  clients = [];
  side = Src;
  txns = [];
  ops = [];
  operator = [];
  schedule = [];
}

-- the longest key that a line of the operator's may have
abbrev pub limit_in : Sofar → ℕ
limit_in s = limit_for s.settings

-- ---- where a line may stand

abbrev pub in_settings : Part → Bool
in_settings parts.Settings = true
in_settings part = false

-- a client's part: behind its first line
abbrev pub in_client : Part → Bool
in_client parts.Client = true
in_client parts.Reads = true
in_client parts.Writes = true
in_client part = false

-- in a transaction without a write
abbrev pub in_reads : Part → Bool
in_reads parts.Reads = true
in_reads part = false

abbrev pub in_txn : Part → Bool
in_txn parts.Reads = true
in_txn parts.Writes = true
in_txn part = false

abbrev pub in_operator : Part → Bool
in_operator parts.Operator = true
in_operator part = false

abbrev pub in_schedule : Part → Bool
in_schedule parts.Schedule = true
in_schedule part = false

-- a line of that first word may stand behind a part
abbrev pub stands : Part → Keyword → Bool
stands part (words.Setting kind) = in_settings part
stands part words.Death = in_settings part
stands part words.Stall = in_settings part
stands part words.Client = in_settings part || in_client part
stands part words.Txn = in_client part
stands part (words.Read kind) = in_reads part
stands part (words.Write kind) = in_txn part
stands part words.Operator = in_settings part || in_client part
stands part (words.Command kind) = in_operator part
stands part words.Schedule = not (in_schedule part)
stands part (words.Event kind) = in_schedule part

-- the number is there, and it is this one
abbrev pub is_value : ℕ → Option ℕ → Bool
is_value n None = false
is_value n (Some value) = nat_eq value n

-- the word isn't a number, or it is this one
abbrev pub is_no_other : ℕ → Bytes → Bool
is_no_other n word = if is_decimal word then is_value n (if_small (value_after 0 word)) else true

abbrev pub is_first_no_other : ℕ → List Bytes → Bool
is_first_no_other n [] = true
is_first_no_other n (word ∷ list) = is_no_other n word

-- how many clients there are
abbrev pub clients_in : Sofar → ℕ
clients_in s = if in_client s.part then length s.clients + 1 else length s.clients

-- a client's number, where its line has one, is the next
abbrev pub is_next : Sofar → Keyword → List Bytes → Bool
is_next s words.Client list = is_first_no_other (clients_in s + 1) list
is_next s word list = true

-- a schedule is never played in a run
abbrev pub is_scheduled : Bool → Keyword → Bool
is_scheduled run words.Schedule = run
is_scheduled run word = false

-- ---- what a line makes of it

-- behind the last operation of a transaction
abbrev pub with_txn : Sofar → Sofar
with_txn s =
    if in_txn s.part
    then record s { part = parts.Client; txns = s.txns ++ s.ops ∷ []; ops = [] } else s

-- behind the last transaction of a client
abbrev pub with_client : Sofar → Sofar
with_client s =
    if in_client s.part then record s {
      part = parts.Settings;
      clients = s.clients
          ++ record { number = length s.clients + 1; side = s.side; txns = s.txns } ∷ [];
      txns = [];
    } else s

-- where the transaction and the client that may go on are complete
abbrev pub closed : Sofar → Sofar
closed s = with_client (with_txn s)

-- behind an operation: reads come before writes
abbrev pub part_behind : TxOp → Part
part_behind (Write mutation) = parts.Writes
part_behind op = parts.Reads

-- an event's client or agent is there; agent 0 always is
abbrev pub is_there : Sofar → EventKind → ℕ → Bool
is_there s events.Begin n = nat_le 1 n && nat_le n (length s.clients)
is_there s events.Commit n = nat_le 1 n && nat_le n (length s.clients)
is_there s events.Tick n = true
is_there s events.Op n = true
is_there s events.Drain n = true
is_there s kind n = nat_le n (number_for kinds.Agents s.settings)

-- one more, where fewer than the most came
abbrev pub fewer : ℕ → ℕ → Read Sofar → Read Sofar
fewer count most reading = where_so why.Many (nat_lt count most) reading

-- another part begins
abbrev pub in_part : Part → Sofar → Read Sofar
in_part part s = Ok (record (closed s) { part = part })

-- what a line makes of what the lines before it say
abbrev pub with_line : Sofar → Line → Read Sofar
with_line s (lines.Setting setting) =
    where_so why.Repeat (not (comes_in setting s.settings))
    (where_so why.Nobody (has_agent s.settings setting)
    (Ok (record s { settings = s.settings ++ setting ∷ [] })))
with_line s (lines.Client side) =
    fewer (clients_in s) 64 (Ok (record (closed s) { part = parts.Client; side = side }))
with_line s lines.Txn =
    fewer (length (with_txn s).txns) 100000 (Ok (record (with_txn s) { part = parts.Reads }))
with_line s (lines.Op op) =
    fewer (length s.ops) 10000 (Ok (record s { part = part_behind op; ops = s.ops ++ op ∷ [] }))
with_line s lines.Operator = in_part parts.Operator s
with_line s (lines.Order command) =
    fewer (length s.operator) 1000 (Ok (record s { operator = s.operator ++ command ∷ [] }))
with_line s lines.Schedule = in_part parts.Schedule s
with_line s (lines.Event kind n m) =
    fewer (length s.schedule) 1000000
    (where_so why.Nobody (is_there s kind n)
    (Ok (record s { schedule = s.schedule ++ event_with kind n m ∷ [] })))

-- ---- line by line

-- what a keyword and the words behind it make of it
abbrev pub with_keyword : Bool → Sofar → Keyword → List Bytes → Read Sofar
with_keyword run s word list =
    where_so why.Place (stands s.part word && is_next s word list)
    (where_so why.Schedule (not (is_scheduled run word))
    (said (limit_in s) word list >>= with_line s))

-- a first word that begins with `#`
abbrev pub is_comment : Bytes → Bool
is_comment word = nat_eq (slice_index word 0) 35

-- a line without words says nothing, nor does one whose first word begins with `#`
abbrev pub with_words : Bool → Sofar → List Bytes → Read Sofar
with_words run s [] = Ok s
with_words run s (word ∷ list) =
    if is_comment word then Ok s else do
      keyword ← found_or (Refused why.Word) (keyword_of word)
      with_keyword run s keyword list

-- what a line's bytes make of it
abbrev pub with_bytes : Bool → Sofar → Bytes → Read Sofar
with_bytes run s line =
    where_so why.Byte (list_all is_text_byte line) (with_words run s (words_of line))

-- a line's fault, with the line's number
abbrev pub fault_in : ℕ → LineFault → TextFault
fault_in number (Refused kind) = faults.Refused number kind
fault_in number NoMemory = faults.NoMemory

-- a line's reading, with the line's number in its refusal
abbrev pub numbered : {A : Type 0} → ℕ → Read A → Result A TextFault
numbered number (Ok x) = Ok x
numbered number (Err fault) = Err (fault_in number fault)

-- what lines, counted on from a number, make of it
abbrev pub with_lines : Bool → ℕ → Sofar → List Bytes → Result Sofar TextFault
with_lines run number s [] = Ok s
with_lines run number s (line ∷ rest) =
    numbered number (with_bytes run s line) >>= λ next. with_lines run (number + 1) next rest
