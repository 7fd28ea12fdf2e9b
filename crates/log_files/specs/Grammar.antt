-- The grammar of log files, apart from reading and writing.
use Rattle.std.specs.Prelude.{◌≡◌, ℕ, ◌+◌, ◌*◌, ◌^◌, ◌<◌, ◌≤◌, List, [], ◌∷◌, ◌++◌, length, ◌⊎◌}
use Rattle.std.specs.List.{flat_map, AllByRecursion}
use Rattle.std.specs.Int.{w32, w64, to_be_bytes}
use Rattle.fb_bytes.specs.Bytes.{Bytes}
use Rattle.block_frame.specs.Text.{header, string, IsPadding}
use Rattle.mutations.specs.declared.Batch.{Batch}
use Rattle.mutations.specs.Spelling.{batch_spelling, HasSpelling}
use Rattle.log_files.specs.Reading.{format}

-- a piece of a batch, under its key
pub record Row : Type 0 where
  pub key : Bytes
  pub value : Bytes

abbrev pub row_text : Row → Bytes
row_text row = string row.key ++ string row.value

abbrev pub rows_text : List Row → Bytes
rows_text rows = flat_map row_text rows

-- a length doesn't begin with the byte ff, which would be padding, and is a number of 32 bits
pub record RowFits (row : Row) : Type 0 where
  pub key : length row.key < 255 * 2 ^ 24
  pub value : length row.value < 2 ^ 32

-- the bytes are a block with these rows
pub record IsLogBlock (text : Bytes) (rows : List Row) : Type 0 where
  pub padding : Bytes
  pub parts : text ≡ header format ++ (rows_text rows ++ padding)
  pub padded : IsPadding padding
  pub fit : AllByRecursion RowFits rows

-- the text is cut into blocks of this size, of which the last one may be shorter, with these rows
pub data LogBlocks : ℕ → Bytes → List Row → Type 0 where
  NoBlock : {size : ℕ} {text : Bytes} {rows : List Row} → text ≡ [] → rows ≡ []
      → LogBlocks size text rows
  NextBlock : {size : ℕ} {text : Bytes} {rows : List Row} (front rest : Bytes)
      (first others : List Row) → text ≡ front ++ rest → rows ≡ first ++ others
      → IsLogBlock front first
      → (length front ≡ size) ⊎ ((length front ≤ size) × (rest ≡ [])) → LogBlocks size rest others
      → LogBlocks size text rows

-- a version and the number of a part, the high byte first
abbrev pub row_key : ℕ → ℕ → Bytes
row_key version part = to_be_bytes w64 version ++ to_be_bytes w32 part

-- pieces under a version, as parts that are numbered on from a number
abbrev pub rows_of : ℕ → ℕ → List Bytes → List Row
rows_of version part [] = []
rows_of version part (piece ∷ pieces) =
    record { key = row_key version part; value = piece } ∷ rows_of version (part + 1) pieces

abbrev pub joined : List Bytes → Bytes
joined pieces = flat_map (λ piece. piece) pieces

-- the pieces of a batch: there are some, none is empty, and together they spell it
pub record AreOf (pieces : List Bytes) (batch : Batch) : Type 0 where
  pub some : 0 < length pieces
  pub none_empty : AllByRecursion (λ piece. 0 < length piece) pieces
  pub few : length pieces ≤ 2 ^ 32
  pub spelled : joined pieces ≡ batch_spelling batch.muts
  pub has : HasSpelling batch.muts

-- the rows are the pieces of the batches, whose versions rise from low on and before end
abbrev pub Spell : ℕ → ℕ → List Batch → List Row → Type 0
Spell low end [] rows = rows ≡ []
Spell low end (batch ∷ batches) rows =
    (pieces : List Bytes) × (others : List Row) × (rows ≡ rows_of batch.version 0 pieces ++ others)
    × AreOf pieces batch × (low ≤ batch.version) × (batch.version < end)
    × Spell (batch.version + 1) end batches others

-- the text is a log file in blocks of this size, of these batches from begin on and before end
pub record LogFile (size : ℕ) (begin end : ℕ) (text : Bytes) (batches : List Batch) : Type 0 where
  pub rows : List Row
  pub blocks : LogBlocks size text rows
  pub spelled : Spell begin end batches rows
