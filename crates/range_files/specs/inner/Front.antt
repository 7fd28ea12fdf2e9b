-- What a reader of blocks holds of the blocks so far.
use Rattle.std.specs.Prelude.{◌≡◌, List, ◌++◌, Option, Some, None}
use Rattle.fb_bytes.specs.Bytes.{Bytes}
use Rattle.fb_bytes.specs.declared.Pair.{Pair}
use Rattle.range_files.specs.declared.block.Block.{Block}
use Rattle.range_files.specs.declared.file as declared
use Rattle.range_files.specs.Reading.{link_of, all_but_last}

-- what the next block has to go on from
abbrev pub before_of : Option declared.Front.Front → Option (Option Pair)
before_of None = None
before_of (Some front) = Some front.link

-- the pairs so far, and these
abbrev pub all_pairs : Option declared.Front.Front → List Pair → List Pair
all_pairs None pairs = pairs
all_pairs (Some front) pairs = front.pairs.items ++ pairs

-- the begin key of the first block
abbrev pub first_begin : Option declared.Front.Front → Bytes → Bytes
first_begin None begin = begin
first_begin (Some front) begin = front.begin

-- the blocks so far and one more
pub record Grows (front : Option declared.Front.Front) (block : Block)
    (grown : declared.Front.Front) : Type 0 where
  pub begin_is : grown.begin ≡ first_begin front block.begin
  pub pairs_are : grown.pairs.items ≡ all_pairs front (all_but_last block.pairs)
  pub link_is : grown.link ≡ link_of block
