-- Reading a range file from left to right, with the first fault that is met.
use Rattle.std.specs.Prelude.{ℕ, zero, suc, ◌+◌, ◌-◌, Bool, true, false, not, List, [], ◌∷◌, ◌++◌}
use Rattle.std.specs.Prelude.{length, take, drop, Option, Some, None, Result, Ok, Err, nat_le, ◌==◌}
use Rattle.std.specs.Prelude.{◌&&◌, if◌then◌else◌}
use Rattle.fb_bytes.specs.Bytes.{Bytes, is_below, is_same}
pub use Rattle.fb_bytes.specs.Results.{◌>>=◌, found_or, ok_side}
use Rattle.fb_bytes.specs.Results.{FailsBut}
use Rattle.fb_bytes.specs.declared.Pair.{Pair}
use Rattle.block_frame.specs.Text.{header_at, string_at, is_over, unpadded_at}
use Rattle.range_files.specs.declared.block.Block.{Block}
use Rattle.range_files.specs.declared.file.RangeBody.{RangeBody}
use Rattle.range_files.specs.declared.fault.BlockFault.{BlockFault}
use Rattle.range_files.specs.declared.fault.BlockFault.TheVariants.{Format, Short, Padding, Order}
use Rattle.range_files.specs.declared.fault.BlockFault.TheVariants.{Join, NoMemory}
use Rattle.range_files.specs.Grammar.{format}

-- a failed call answers want of memory, or the fault that the reading meets
abbrev pub Fails : {A : Type 0} → BlockFault → Result A BlockFault → Type 0
Fails fault reading = FailsBut NoMemory fault reading

-- goes on where there is no fault
abbrev pub unless : {A : Type 0} → Option BlockFault → Result A BlockFault → Result A BlockFault
unless None more = more
unless (Some fault) more = Err fault

-- the string in front; the bytes end at the place t, so they begin at t less their length
unfoldable pub string_or : ℕ → Bytes → Result (Bytes × Bytes) BlockFault
string_or t bytes = found_or (Short (t - length bytes)) (string_at bytes)

-- what stands behind the begin key: pairs, the lone key that may end the block, and the bytes
-- behind them
pub record Items : Type 0 where
  pub pairs : List Pair
  pub end : Option Bytes
  pub rest : Bytes

abbrev pub with_pair : Bytes → Bytes → Items → Items
with_pair key value items =
    record {
      pairs = record { key = key; value = value } ∷ items.pairs;
      end = items.end;
      rest = items.rest;
    }

-- one pair, with which the block ends
abbrev pub one_pair : Bytes → Bytes → Bytes → Items
one_pair key value rest =
    record { pairs = record { key = key; value = value } ∷ []; end = None; rest = rest }

-- keys and values in turn; behind each the block may be over. The first number is one more than the
-- strings that may still come, so it is never used up.
unfoldable pub items_at : ℕ → ℕ → Bytes → Result Items BlockFault
items_at zero t bytes = Err (Short t)
items_at (suc fuel) t bytes = do
  key ← string_or t bytes
  if is_over key.1 then Ok (record { pairs = []; end = Some key.0; rest = key.1 }) else do
    value ← string_or t key.1
    if is_over value.1 then Ok (one_pair key.0 value.0 value.1) else do
      more ← items_at fuel t value.1
      Ok (with_pair key.0 value.0 more)

-- a byte other than ff in the padding
abbrev pub place_after : ℕ → Option ℕ → Option ℕ
place_after at None = None
place_after at (Some place) = Some (at + place)

unfoldable pub padding_fault : ℕ → Bytes → Option ℕ
padding_fault t rest = place_after (t - length rest) (unpadded_at rest)

-- the place of the first key that isn't past the one before it; the next key's length stands at the
-- place at
abbrev pub unrisen : Bytes → ℕ → List Pair → Option Bytes → Option ℕ
unrisen last at [] None = None
unrisen last at [] (Some end) = if is_below last end then None else Some at
unrisen last at (pair ∷ pairs) end =
    if is_below last pair.key
    then unrisen pair.key (at + (8 + length pair.key + length pair.value)) pairs end else Some at

-- in the first block the first key may be the begin key or past it, in later ones it is the begin
-- key
abbrev pub starts_well : Bool → Bytes → Bytes → Bool
starts_well true begin key = not (is_below key begin)
starts_well false begin key = is_same key begin

-- a pair that alone makes a block has to be past the begin key
abbrev pub ends_well : Bytes → Bytes → List Pair → Option Bytes → Bool
ends_well begin key [] None = is_below begin key
ends_well begin key [] (Some end) = true
ends_well begin key (pair ∷ pairs) end = true

-- the place of the first key that is out of order
abbrev pub disorder : Bool → Bytes → ℕ → List Pair → Option Bytes → Option ℕ
disorder first begin at [] None = None
disorder first begin at [] (Some end) = if is_below begin end then None else Some at
disorder first begin at (pair ∷ pairs) end =
    if starts_well first begin pair.key && ends_well begin pair.key pairs end
    then unrisen pair.key (at + (8 + length pair.key + length pair.value)) pairs end
    else Some at

-- a fault at a place, if there is one
abbrev pub fault_at : (ℕ → BlockFault) → Option ℕ → Option BlockFault
fault_at fault None = None
fault_at fault (Some at) = Some (fault at)

-- the block that the bytes are, where its header stands at the place base; at 0 it is the first one
unfoldable pub structure_of : ℕ → ℕ → Bytes → Result (Bytes × Items) BlockFault
structure_of number base bytes = do
  head ← found_or (Short base) (header_at bytes)
  begin ← if head.0 == number then string_or (base + length bytes) head.1 else Err (Format head.0)
  items ← items_at (length begin.1 + 1) (base + length bytes) begin.1
  Ok (begin.0, items)

abbrev pub block_from : ℕ → ℕ → Bytes → Items → Result Block BlockFault
block_from base t begin items =
    unless (fault_at (λ at. Padding at) (padding_fault t items.rest))
    (unless (fault_at
    (λ at. Order at) (disorder (base == 0) begin (base + (8 + length begin)) items.pairs items.end))
    (Ok (record { begin = begin; pairs = items.pairs; end = items.end })))

unfoldable pub block_of : ℕ → ℕ → Bytes → Result Block BlockFault
block_of number base bytes =
    structure_of number base bytes >>= λ x. block_from base (base + length bytes) x.0 x.1

-- the last one of some pairs, and those before it
abbrev pub last_of : List Pair → Option Pair
last_of [] = None
last_of (pair ∷ []) = Some pair
last_of (pair ∷ next ∷ pairs) = last_of (next ∷ pairs)

abbrev pub all_but_last : List Pair → List Pair
all_but_last [] = []
all_but_last (pair ∷ []) = []
all_but_last (pair ∷ next ∷ pairs) = pair ∷ all_but_last (next ∷ pairs)

-- the pair that ends a block, if it isn't ended by a lone key
abbrev pub link_from : Option Bytes → List Pair → Option Pair
link_from None pairs = last_of pairs
link_from (Some end) pairs = None

abbrev pub link_of : Block → Option Pair
link_of block = link_from block.end block.pairs

abbrev pub begins_with : Pair → List Pair → Bool
begins_with pair [] = false
begins_with pair (first ∷ pairs) = is_same first.key pair.key && is_same first.value pair.value

-- the block goes on from the pair that ended the block before; the first block has none before it
abbrev pub joins : Option (Option Pair) → Block → Bool
joins None block = true
joins (Some None) block = false
joins (Some (Some pair)) block = is_same block.begin pair.key && begins_with pair block.pairs

-- the last block has to end with a lone key
abbrev pub last_body : ℕ → Bytes → List Pair → Option Bytes → Result RangeBody BlockFault
last_body at begin pairs None = Err (Short at)
last_body at begin pairs (Some end) = Ok (record { begin = begin; end = end; pairs = pairs })

abbrev pub after_block : Block → RangeBody → RangeBody
after_block block body =
    record { begin = block.begin; end = body.end; pairs = all_but_last block.pairs ++ body.pairs }

-- the blocks from an index on, whose bytes begin at the place base; the first number is never used
-- up
unfoldable pub blocks_from : ℕ → ℕ → ℕ → ℕ → Option (Option Pair) → Bytes
    → Result RangeBody BlockFault
blocks_from zero size index base before bytes = Err (Short base)
blocks_from (suc fuel) size index base before bytes =
    block_of format base (take size bytes) >>= λ block.
    (if joins before block
    then (if nat_le (length bytes) size
    then last_body (base + length bytes) block.begin block.pairs block.end
    else (blocks_from fuel size (index + 1) (base + size) (Some (link_of block))
    (drop size bytes) >>= λ body. Ok (after_block block body)))
    else Err (Join index))

-- what a reader answers: the file's content, or the first fault
unfoldable pub read : ℕ → Bytes → Result RangeBody BlockFault
read size bytes = blocks_from (length bytes + 1) size 0 0 None bytes

-- the content of a range file, if the bytes are one
abbrev pub range_file_of : ℕ → Bytes → Option RangeBody
range_file_of size bytes = ok_side (read size bytes)
