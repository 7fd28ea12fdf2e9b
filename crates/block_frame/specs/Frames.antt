-- What a writer of blocks holds.
use Rattle.std.specs.Prelude.{ℕ, ◌+◌, ◌-◌, [], ◌++◌, length, replicate, nat_le, ◌==◌, if◌then◌else◌}
use Rattle.fb_bytes.specs.Bytes.{Bytes}
use Rattle.block_frame.specs.Text.{header}

-- the blocks that are full, one behind the other, and the present one, which is empty before the
-- first item
pub record Frames : Type 0 where
  pub full : Bytes
  pub present : Bytes

abbrev pub no_frames : Frames
no_frames = record { full = []; present = [] }

-- a new block with its header, what it repeats of the block before, and its first item
abbrev pub begun : ℕ → Bytes → Bytes → Bytes
begun format repeat item = header format ++ repeat ++ item

-- a block filled up with the byte ff
abbrev pub padded : ℕ → Bytes → Bytes
padded block bytes = bytes ++ replicate (block - length bytes) 255

-- without a block the item begins one; the present block takes the item where it has room; else it
-- is filled up, and a new one begins with the item
unfoldable pub framed : ℕ → ℕ → Frames → Bytes → Bytes → Frames
framed block format frames item repeat =
    if length frames.present == 0
    then record { full = frames.full; present = begun format repeat item }
    else if nat_le (length frames.present + length item) block
    then record { full = frames.full; present = frames.present ++ item }
    else record {
      full = frames.full ++ padded block frames.present;
      present = begun format repeat item;
    }

-- all bytes: the full blocks, and the present one as it stands
abbrev pub text : Frames → Bytes
text frames = frames.full ++ frames.present
