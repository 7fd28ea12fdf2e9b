-- The first word of a line.
use Rattle.std.specs.Prelude.{codes, Option, Some, None, if◌then◌else◌}
use Rattle.std.specs.Option.{option_map}
use Rattle.atomic_ops.specs.Codes.{op_of_word}
use Rattle.fb_bytes.specs.Bytes.{Bytes, is_same}
use Rattle.mutations.specs.Transactions.{◌or_else◌}
use Rattle.workload_text.specs.declared.keyword.ReadKind.TheVariants as reads
use Rattle.workload_text.specs.declared.keyword.WriteKind.TheVariants as writes
use Rattle.workload_text.specs.declared.keyword.Keyword.{Keyword}
use Rattle.workload_text.specs.declared.keyword.Keyword.TheVariants as words
use Rattle.workload_text.specs.Kinds.{command_of_word, event_of_word}
use Rattle.workload_text.specs.Settings.{setting_of_word}

-- `death`, `stall`, `client`, `operator`, `schedule`, and what stands in a client's part
abbrev pub plain_keyword : Bytes → Option Keyword
plain_keyword word =
    if is_same word (codes "set") then Some (words.Write writes.Set)
    else if is_same word (codes "clear") then Some (words.Write writes.Clear)
    else if is_same word (codes "clearrange") then Some (words.Write writes.ClearRange)
    else if is_same word (codes "get") then Some (words.Read reads.Get)
    else if is_same word (codes "sget") then Some (words.Read reads.SnapshotGet)
    else if is_same word (codes "scan") then Some (words.Read reads.Scan)
    else if is_same word (codes "txn") then Some words.Txn
    else if is_same word (codes "client") then Some words.Client
    else if is_same word (codes "operator") then Some words.Operator
    else if is_same word (codes "schedule") then Some words.Schedule
    else if is_same word (codes "death") then Some words.Death
    else if is_same word (codes "stall") then Some words.Stall
    else None

-- the keyword that a word is, if it is one
abbrev pub keyword_of : Bytes → Option Keyword
keyword_of word =
    plain_keyword word
    or_else option_map words.Event (event_of_word word)
    or_else option_map (λ op. words.Write (writes.Atomic op)) (op_of_word word)
    or_else option_map words.Command (command_of_word word)
    or_else option_map words.Setting (setting_of_word word)
