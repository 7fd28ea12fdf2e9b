-- The lines of clients: one for each of their tries.
use Rattle.std.specs.Prelude.{ℕ, ◌+◌, List, [], ◌∷◌, ◌++◌, Option, Some, None, codes, decimal}
use Rattle.std.specs.List.{flat_map}
use Rattle.fb_bytes.specs.Bytes.{Bytes}
use Rattle.fb_bytes.specs.Words.{printed}
use Rattle.fb_bytes.specs.declared.Pair.{Pair}
use Rattle.mutations.specs.declared.TxOp.{TxOp}
use Rattle.mutations.specs.declared.TxOp.TheVariants.{Get, SnapshotGet, Scan, Write}
use Rattle.database.specs.declared.CommitFault.{CommitFault}
use Rattle.database.specs.declared.CommitFault.TheVariants.{Outside, KeyTooLarge, ValueTooLarge}
use Rattle.database.specs.declared.CommitFault.TheVariants.{TooLarge, Locked, TooOld, NotCommitted}
use Rattle.database.specs.declared.CommitFault.TheVariants.{VersionsSpent, LogTooLarge, NoMemory}
use Rattle.database.specs.declared.Found.{Found}
use Rattle.database.specs.declared.Found.TheVariants.{One, Many}
use Rattle.client_core.specs.Clients.{Told}
use Rattle.client_core.specs.Legal.{ops_of}
use Rattle.client_core.specs.declared.Outcome.{Outcome}
use Rattle.client_core.specs.declared.End.{End}
use Rattle.client_core.specs.declared.End.TheVariants.{Commit, ReadOnly, Fault}
use Rattle.report_text.specs.Lines.{line}

-- why a commit was refused: FoundationDB's number of the error, where it has one
abbrev pub fault_words : CommitFault → List Bytes
fault_words (Outside index) = codes "2004" ∷ decimal index ∷ []
fault_words (KeyTooLarge index) = codes "2102" ∷ decimal index ∷ []
fault_words (ValueTooLarge index) = codes "2103" ∷ decimal index ∷ []
fault_words (TooLarge bytes) = codes "2101" ∷ decimal bytes ∷ []
fault_words (Locked uid) = codes "1038" ∷ decimal uid ∷ []
fault_words (TooOld read oldest) = codes "1007" ∷ decimal read ∷ decimal oldest ∷ []
fault_words (NotCommitted version) = codes "1020" ∷ decimal version ∷ []
fault_words (VersionsSpent version) = codes "versions-spent" ∷ decimal version ∷ []
fault_words (LogTooLarge bytes) = codes "log-too-large" ∷ decimal bytes ∷ []
fault_words NoMemory = codes "no-memory" ∷ []

-- how a try ended
abbrev pub end_words : End → List Bytes
end_words (Commit version reads) = codes "commit" ∷ decimal version ∷ []
end_words (ReadOnly reads) = codes "readonly" ∷ []
end_words (Fault fault) = fault_words fault

-- ---- reads

-- a key that was read, and its value, where it has one
abbrev pub value_line : Bytes → Bytes → Option Bytes → Bytes
value_line word key None = line (word ∷ printed key ∷ [])
value_line word key (Some value) = line (word ∷ printed key ∷ printed value ∷ [])

abbrev pub pair_line : Pair → Bytes
pair_line pair = line (codes "got" ∷ printed pair.key ∷ printed pair.value ∷ [])

-- a read and what it found: of a scan its range, and then each pair
abbrev pub read_lines : TxOp → Found → Bytes
read_lines (Get key) (One value) = value_line (codes "get") key value
read_lines (SnapshotGet key) (One value) = value_line (codes "sget") key value
read_lines (Scan range limit) (Many pairs) =
    line (codes "scan" ∷ printed range.begin ∷ printed range.end ∷ []) ++ flat_map pair_line pairs
read_lines op found = []

-- a read and the first of what was found, and then the others
abbrev pub first_lines : TxOp → List Found → (List Found → Bytes) → Bytes
first_lines op [] others = []
first_lines op (found ∷ more) others = read_lines op found ++ others more

-- the reads of a transaction, in order, and what they found
abbrev pub reads_lines : List TxOp → List Found → Bytes
reads_lines [] found = []
reads_lines (Write mutation ∷ ops) found = reads_lines ops found
reads_lines (Get key ∷ ops) found = first_lines (Get key) found (reads_lines ops)
reads_lines (SnapshotGet key ∷ ops) found = first_lines (SnapshotGet key) found (reads_lines ops)
reads_lines (Scan range limit ∷ ops) found = first_lines (Scan range limit) found (reads_lines ops)

-- what the reads of a try found; a try that was refused tells none
abbrev pub found_in : End → List Found
found_in (Commit version reads) = reads
found_in (ReadOnly reads) = reads
found_in (Fault fault) = []

-- a try of the client of this number
abbrev pub client_line : ℕ → Outcome → Bytes
client_line client outcome =
    line (codes "client" ∷ decimal client ∷ codes "txn" ∷ decimal outcome.place ∷ codes "try" ∷
    decimal outcome.attempt ∷ codes "read" ∷ decimal outcome.read ∷ end_words outcome.end)

-- and below it its reads
abbrev pub try_lines : ℕ → List (List TxOp) → Outcome → Bytes
try_lines client txns outcome =
    client_line client outcome ++ reads_lines (ops_of txns outcome.place) (found_in outcome.end)

-- the tries of clients, whose numbers count on from one
abbrev pub client_lines : ℕ → List Told → Bytes
client_lines client [] = []
client_lines client (told ∷ others) =
    flat_map (try_lines client told.script.txns) told.outcomes ++ client_lines (client + 1) others
