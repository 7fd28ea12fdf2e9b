-- What a container means at a version: the value of each key.
use Rattle.std.specs.Prelude.{ℕ, ◌+◌, max, min, Bool, true, false, not, ◌&&◌, ◌||◌, List, [], ◌∷◌}
use Rattle.std.specs.Prelude.{Option, Some, None, if◌then◌else◌}
use Rattle.fb_bytes.specs.Bytes.{Bytes, is_same}
use Rattle.fb_bytes.specs.declared.KeyRange.{KeyRange}
use Rattle.fb_bytes.specs.Keys.{holds}
pub use Rattle.fb_bytes.specs.Keys.{overlaps}
use Rattle.fb_bytes.specs.Options.{◌>>=◌, each_of}
use Rattle.fb_bytes.specs.declared.Pair.{Pair}
use Rattle.fb_bytes.specs.Pairs.{value_of}
use Rattle.block_frame.specs.Profiles.{limit_of}
use Rattle.mutations.specs.declared.Batch.{Batch}
use Rattle.mutations.specs.Replay.{replayed}
use Rattle.container_view.specs.Folder.{RangeFile, Folder}
use Rattle.container_view.specs.Chain.{LogLink, chain}
use Rattle.container_view.specs.Advertised.{chosen}

-- a range file that was read
pub record Piece : Type 0 where
  pub version : ℕ
  pub range : KeyRange
  pub pairs : List Pair

abbrev pub read_range : RangeFile → Option Piece
read_range file =
    file.content
    >>= λ body. Some (record { version = file.version; range = body.range; pairs = body.pairs })

-- the range file of that name, read
abbrev pub piece_named : List RangeFile → Bytes → Option Piece
piece_named [] name = None
piece_named (file ∷ files) name =
    if is_same file.name name then read_range file else piece_named files name

-- a link whose file was read: its batches, and the versions that it gives
pub record Part : Type 0 where
  pub from : ℕ
  pub to : ℕ
  pub block : ℕ
  pub batches : List Batch

abbrev pub read_link : LogLink → Option Part
read_link link =
    link.file.content
    >>= λ batches.
    Some (record { from = link.from; to = link.to; block = link.file.block; batches = batches })

-- the parts of a chain; without a chain there are none
abbrev pub read_chain : Option (List LogLink) → Option (List Part)
read_chain None = Some []
read_chain (Some links) = each_of read_link links

abbrev pub overlaps_any : KeyRange → List Piece → Bool
overlaps_any range [] = false
overlaps_any range (piece ∷ pieces) = overlaps range piece.range || overlaps_any range pieces

abbrev pub are_disjoint : List Piece → Bool
are_disjoint [] = true
are_disjoint (piece ∷ pieces) = not (overlaps_any piece.range pieces) && are_disjoint pieces

-- the piece that holds the key
abbrev pub piece_of : List Piece → Bytes → Option Piece
piece_of [] key = None
piece_of (piece ∷ pieces) key = if holds piece.range key then Some piece else piece_of pieces key

-- What the parts' batches with low <= version < high leave at a key, each part giving its own
-- versions. A value that an operation appends to has the limit of the part's block.
abbrev pub replayed_parts : List Part → ℕ → ℕ → Bytes → Option Bytes → Option Bytes
replayed_parts [] low high key old = old
replayed_parts (part ∷ parts) low high key old =
    replayed_parts parts low high key
    (replayed (limit_of part.block) part.batches (max part.from low) (min part.to high) key old)

-- the value of a key at a version: that of its piece, and then the batches since
abbrev pub value_at : List Piece → List Part → ℕ → Bytes → Option Bytes
value_at pieces parts version key = do
  piece ← piece_of pieces key
  replayed_parts parts (piece.version + 1) (version + 1) key (value_of piece.pairs key)

-- what is read for a version
pub record Needed : Type 0 where
  pub pieces : List Piece
  pub parts : List Part

-- the range files of the chosen manifest and the log files of its chain, where they are there, in
-- their grammar, and no two ranges overlap
abbrev pub needed : Folder → ℕ → Option Needed
needed folder version = do
  m ← chosen folder version
  names ← m.content
  pieces ← each_of (piece_named folder.ranges) names
  parts ← read_chain (chain folder m.begin (version + 1))
  if are_disjoint pieces then Some (record { pieces = pieces; parts = parts }) else None

-- the value of each key at a version
abbrev pub means : Folder → ℕ → Option (Bytes → Option Bytes)
means folder version = needed folder version >>= λ n. Some (value_at n.pieces n.parts version)
