-- The text that a writer gives.
use Rattle.std.specs.Prelude.{◌≡◌, ℕ, ◌+◌, ◌<◌, ◌≤◌, true, List, [], ◌∷◌}
use Rattle.fb_bytes.specs.Bytes.{Bytes}
use Rattle.fb_bytes.specs.Blocks.{is_block}
use Rattle.block_frame.specs.Profiles.{part_of}
use Rattle.block_frame.specs.Frames.{Frames, no_frames, framed, text}
use Rattle.mutations.specs.declared.Batch.{Batch}
use Rattle.mutations.specs.Spelling.{batch_spelling, HasSpelling}
use Rattle.mutations.specs.Cutting.{pieces_of}
use Rattle.log_files.specs.Reading.{format}
use Rattle.log_files.specs.Grammar.{Row, row_text, rows_of}

-- rows one after the other, each in a new block exactly where it doesn't fit
abbrev pub with_rows : ℕ → Frames → List Row → Frames
with_rows size frames [] = frames
with_rows size frames (row ∷ rows) =
    with_rows size (framed size format frames (row_text row) []) rows

abbrev pub with_batches : ℕ → Frames → List Batch → Frames
with_batches size frames [] = frames
with_batches size frames (batch ∷ batches) =
    with_batches size (with_rows size frames
    (rows_of batch.version 0 (pieces_of (part_of size) (batch_spelling batch.muts)))) batches

unfoldable pub log_text : ℕ → List Batch → Bytes
log_text size batches = text (with_batches size no_frames batches)

-- versions rise strictly from low on and before end, and each batch has a spelling
abbrev pub AreLogged : ℕ → ℕ → List Batch → Type 0
AreLogged low end [] = Unit {0}
AreLogged low end (batch ∷ batches) =
    (low ≤ batch.version) × (batch.version < end) × HasSpelling batch.muts
    × AreLogged (batch.version + 1) end batches

-- what a writer can write in blocks of a size: the size is in the table
pub record IsWritable (size begin end : ℕ) (batches : List Batch) : Type 0 where
  pub size_listed : is_block size ≡ true
  pub logged : AreLogged begin end batches
