-- The text that a writer gives.
use Rattle.std.specs.Prelude.{◌≡◌, ℕ, ◌≤◌, true, false, List, [], ◌∷◌, ◌++◌, length, Option, Some}
use Rattle.std.specs.Prelude.{None}
use Rattle.std.specs.List.{AllByRecursion}
use Rattle.fb_bytes.specs.Bytes.{Bytes, is_below}
use Rattle.fb_bytes.specs.Blocks.{is_block}
use Rattle.fb_bytes.specs.declared.Pair.{Pair}
use Rattle.block_frame.specs.Text.{string}
use Rattle.block_frame.specs.Profiles.{key_limit_of, limit_of}
use Rattle.block_frame.specs.Frames.{Frames, no_frames, framed, text}
use Rattle.range_files.specs.Grammar.{format, pair_text}

-- what a new block has behind its header: the pair written last, its key before it as the begin key
abbrev pub repeat_of : Option Pair → Bytes
repeat_of None = []
repeat_of (Some pair) = string pair.key ++ pair_text pair

-- the pairs one after the other, then the end key; each goes into a new block exactly where it
-- doesn't fit
abbrev pub with_pairs : ℕ → Frames → Option Pair → List Pair → Bytes → Frames
with_pairs size frames last [] end = framed size format frames (string end) (repeat_of last)
with_pairs size frames last (pair ∷ pairs) end =
    with_pairs size (framed size format frames (pair_text pair) (repeat_of last))
    (Some pair) pairs end

unfoldable pub range_text : ℕ → Bytes → Bytes → List Pair → Bytes
range_text size begin end pairs =
    text (with_pairs size (framed size format no_frames (string begin) []) None pairs end)

pub record PairFits (size : ℕ) (begin end : Bytes) (pair : Pair) : Type 0 where
  pub key : length pair.key ≤ key_limit_of size
  pub value : length pair.value ≤ limit_of size
  pub from_begin : is_below pair.key begin ≡ false
  pub below_end : is_below pair.key end ≡ true

-- what a writer can write in blocks of a size: the size is in the table, keys and values are within
-- its limits, and each pair's key is from begin on and below end
pub record IsWritable (size : ℕ) (begin end : Bytes) (pairs : List Pair) : Type 0 where
  pub size_listed : is_block size ≡ true
  pub begin_limit : length begin ≤ key_limit_of size
  pub end_limit : length end ≤ key_limit_of size
  pub forward : is_below begin end ≡ true
  pub each : AllByRecursion (PairFits size begin end) pairs
