-- What holds of log files.
use Rattle.std.specs.Prelude.{◌≡◌, ℕ, ◌^◌, ◌<◌, List, Some}
use Rattle.fb_bytes.specs.Bytes.{Bytes, IsBytes}
use Rattle.mutations.specs.declared.Batch.{Batch}
use Rattle.log_files.specs.Reading.{log_file_of}
use Rattle.log_files.specs.Grammar.{LogFile}
use Rattle.log_files.specs.Writing.{IsWritable, log_text}

-- What is read from bytes is in the grammar.
abbrev pub ReadIsLog : Type 0
ReadIsLog =
    (size begin end : ℕ) (bytes : Bytes) (batches : List Batch) → 0 < size → IsBytes bytes
    → log_file_of size begin end bytes ≡ Some batches → LogFile size begin end bytes batches

-- What is in the grammar is read.
abbrev pub LogIsRead : Type 0
LogIsRead =
    (size begin end : ℕ) (bytes : Bytes) (batches : List Batch) → 0 < size → end < 2 ^ 64
    → LogFile size begin end bytes batches → log_file_of size begin end bytes ≡ Some batches

-- A text is a file of at most one list of batches.
abbrev pub OneLog : Type 0
OneLog =
    (size begin end : ℕ) (bytes : Bytes) (a b : List Batch) → 0 < size → end < 2 ^ 64
    → LogFile size begin end bytes a → LogFile size begin end bytes b → a ≡ b

-- What is written is in the grammar.
abbrev pub WrittenIsLog : Type 0
WrittenIsLog =
    (size begin end : ℕ) (batches : List Batch) → IsWritable size begin end batches
    → LogFile size begin end (log_text size batches) batches

-- What was written is read back.
abbrev pub WrittenIsRead : Type 0
WrittenIsRead =
    (size begin end : ℕ) (batches : List Batch) → end < 2 ^ 64 → IsWritable size begin end batches
    → log_file_of size begin end (log_text size batches) ≡ Some batches
