-- What holds of range files.
use Rattle.std.specs.Prelude.{◌≡◌, ℕ, List, Some}
use Rattle.fb_bytes.specs.Bytes.{Bytes, IsBytes}
use Rattle.fb_bytes.specs.Pairs.{AreRising}
use Rattle.fb_bytes.specs.declared.Pair.{Pair}
use Rattle.range_files.specs.declared.file.RangeBody.{RangeBody}
use Rattle.range_files.specs.Grammar.{RangeFile}
use Rattle.range_files.specs.Reading.{range_file_of}
use Rattle.range_files.specs.Writing.{IsWritable, range_text}

-- What is read from bytes is in the grammar.
abbrev pub ReadIsFile : Type 0
ReadIsFile =
    (size : ℕ) (bytes : Bytes) (body : RangeBody) → IsBytes bytes
    → range_file_of size bytes ≡ Some body → RangeFile size bytes body.begin body.end body.pairs

-- What is in the grammar is read.
abbrev pub FileIsRead : Type 0
FileIsRead =
    (size : ℕ) (bytes begin end : Bytes) (pairs : List Pair) → RangeFile size bytes begin end pairs
    → range_file_of size bytes ≡ Some (record { begin = begin; end = end; pairs = pairs })

-- A text is a file of at most one begin, end and list of pairs.
abbrev pub OneBody : Type 0
OneBody =
    (size : ℕ) (bytes begin end begin' end' : Bytes) (pairs pairs' : List Pair)
    → RangeFile size bytes begin end pairs → RangeFile size bytes begin' end' pairs'
    → (begin ≡ begin') × (end ≡ end') × (pairs ≡ pairs')

-- What is written is in the grammar.
abbrev pub WrittenIsFile : Type 0
WrittenIsFile =
    (size : ℕ) (begin end : Bytes) (pairs : List Pair) → IsWritable size begin end pairs
    → AreRising pairs → RangeFile size (range_text size begin end pairs) begin end pairs

-- What is written is read back.
abbrev pub WrittenIsRead : Type 0
WrittenIsRead =
    (size : ℕ) (begin end : Bytes) (pairs : List Pair) → IsWritable size begin end pairs
    → AreRising pairs → range_file_of size (range_text size begin end pairs)
    ≡ Some (record { begin = begin; end = end; pairs = pairs })
