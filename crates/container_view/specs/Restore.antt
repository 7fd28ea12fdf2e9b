-- What a restore writes to its destination.
use Rattle.std.specs.Prelude.{◌≡◌, ℕ, ◌+◌, true, List, [], ◌∷◌, ◌++◌, Option, Some, None, nat_lt}
use Rattle.std.specs.Prelude.{if◌then◌else◌, min}
use Rattle.std.specs.List.{AllByRecursion, flat_map}
use Rattle.fb_bytes.specs.Bytes.{Bytes}
use Rattle.fb_bytes.specs.declared.KeyRange.{KeyRange}
use Rattle.fb_bytes.specs.Keys.{holds}
use Rattle.fb_bytes.specs.declared.Pair.{Pair}
use Rattle.fb_bytes.specs.Pairs.{AreRising}
use Rattle.block_frame.specs.Profiles.{limit_of}
use Rattle.mutations.specs.declared.Mutation.{Mutation}
use Rattle.mutations.specs.declared.Mutation.TheVariants.{Set}
use Rattle.mutations.specs.declared.Batch.{Batch}
use Rattle.mutations.specs.Effects.{effects}
use Rattle.mutations.specs.Clipping.{all_clipped}
use Rattle.mutations.specs.Replay.{is_within}
use Rattle.container_view.specs.Folder.{Folder}
use Rattle.container_view.specs.Advertised.{is_advertised}
use Rattle.container_view.specs.Meaning.{Piece, Part, Needed, needed, means}
use Rattle.container_view.specs.Law.{Source, IsHonest, true_value}

-- a set for each pair
abbrev pub loads : List Pair → List Mutation
loads [] = []
loads (pair ∷ pairs) = Set pair.key pair.value ∷ loads pairs

abbrev pub all_loads : List Piece → List Mutation
all_loads pieces = flat_map (λ piece. loads piece.pairs) pieces

-- the ranges of the pieces that are older than a version
abbrev pub older : List Piece → ℕ → List KeyRange
older [] version = []
older (piece ∷ pieces) version =
    if nat_lt piece.version version then piece.range ∷ older pieces version
    else older pieces version

-- the mutations of the batches with low <= version < high, each clipped to the pieces that are
-- older
abbrev pub applied : List Piece → List Batch → ℕ → ℕ → List Mutation
applied pieces [] low high = []
applied pieces (x ∷ xs) low high =
    (if is_within low high x.version then all_clipped (older pieces x.version) x.muts else [])
    ++ applied pieces xs low high

-- the same over the parts of a chain, up to a version
abbrev pub all_applied : List Piece → List Part → ℕ → List Mutation
all_applied pieces [] high = []
all_applied pieces (part ∷ parts) high =
    applied pieces part.batches part.from (min part.to high) ++ all_applied pieces parts high

-- what a restore writes in all, of what was read for a version
abbrev pub restored : Needed → ℕ → List Mutation
restored n version = all_loads n.pieces ++ all_applied n.pieces n.parts (version + 1)

-- what the grammar of range files says of a piece: each key is in the range, and the keys rise
pub record IsWhole (piece : Piece) : Type 0 where
  pub inside : AllByRecursion (λ pair. holds piece.range pair.key ≡ true) piece.pairs
  pub rising : AreRising piece.pairs

-- what the grammars and the block say of what was read
pub record IsReadable (block : ℕ) (n : Needed) : Type 0 where
  pub whole : AllByRecursion IsWhole n.pieces
  pub of_block : AllByRecursion (λ part. part.block ≡ block) n.parts

-- loaded and applied, the files leave what they mean, whoever wrote them
abbrev pub AppliedLaw : Type 0
AppliedLaw = (folder : Folder) (version block : ℕ) (n : Needed) → needed folder version ≡ Some n
    → IsReadable block n → (meaning : Bytes → Option Bytes) → means folder version ≡ Some meaning
    → (key : Bytes) → effects (limit_of block) (restored n version) key None ≡ meaning key

-- from an honest container, a restore of an advertised version leaves the source's pairs at that
-- version
abbrev pub RestoredLaw : Type 0
RestoredLaw =
    (s : Source) (folder : Folder) (version : ℕ) → IsHonest s folder → is_advertised folder version
    ≡ true → (n : Needed) → needed folder version ≡ Some n → IsReadable s.block n → (key : Bytes)
    → effects (limit_of s.block) (restored n version) key None ≡ true_value s version key
