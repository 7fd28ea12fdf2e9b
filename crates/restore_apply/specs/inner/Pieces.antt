-- The ranges of the files in the order of their keys, and the batches that each of them waits for.
use Rattle.std.specs.Prelude.{◌≡◌, ℕ, ◌+◌, ◌-◌, ◌^◌, max, min, Bool, false, ◌&&◌, ◌||◌, List, []}
use Rattle.std.specs.Prelude.{◌∷◌, ◌++◌, Option, Some, None, nat_lt, option_map, if◌then◌else◌}
use Rattle.std.specs.List.{AllByRecursion, slice_get}
use Rattle.fb_bytes.specs.Bytes.{Bytes, is_below}
use Rattle.fb_bytes.specs.declared.KeyRange.{KeyRange}
use Rattle.fb_bytes.specs.Keys.{holds, is_backwards}
use Rattle.mutations.specs.declared.batch.Batch.{Batch}
use Rattle.mutations.specs.declared.mutation.Mutation.{Mutation}
use Rattle.mutations.specs.Effects.{effect, effects}
use Rattle.mutations.specs.Replay.{is_within}
use Rattle.restore_apply.specs.Loaded.{LoadedFile, LoadedLink, file_with}
use Rattle.restore_apply.specs.declared.overlaps.At.{At}
pub use Rattle.restore_apply.specs.declared.pieces.Piece.{Piece}

-- the version of the piece that holds the key
abbrev pub since : List Piece → Bytes → Option ℕ
since [] key = None
since (piece ∷ pieces) key =
    if holds piece.range key then Some piece.version else since pieces key

-- each piece has keys, and those of the pieces behind it come after them
abbrev pub AreLine : List Piece → Type 0
AreLine [] = Unit {0}
AreLine (piece ∷ pieces) =
    (is_backwards piece.range ≡ false)
    × AllByRecursion (λ next. is_below next.range.begin piece.range.end ≡ false) pieces
    × AreLine pieces

-- the pieces of files: their ranges that have keys, in order
pub record ArePiecesOf (files : List LoadedFile) (pieces : List Piece) : Type 0 where
  pub line : AreLine pieces
  pub tell : (key : Bytes)
      → since pieces key ≡ option_map (λ file. file.version) (file_with files key)

-- the piece of a file at a place
abbrev pub piece_of : KeyRange → Option LoadedFile → List Piece
piece_of range None = []
piece_of range (Some file) = record { version = file.version; range = range } ∷ []

-- the pieces of files at places, without those that have no keys
abbrev pub pieces_at : List LoadedFile → List At → List Piece
pieces_at files [] = []
pieces_at files (at ∷ order) =
    (if is_backwards at.range then [] else piece_of at.range (slice_get files at.place))
    ++ pieces_at files order

-- the least version of the pieces
abbrev pub oldest : List Piece → ℕ
oldest [] = 2 ^ 64 - 1
oldest (piece ∷ pieces) = min piece.version (oldest pieces)

-- the key is in a file that is older than the version
abbrev pub is_older : Option ℕ → ℕ → Bool
is_older None version = false
is_older (Some since) version = nat_lt since version

-- some piece that is older than the version holds the key
abbrev pub older_has : ℕ → List Piece → Bytes → Bool
older_has version [] key = false
older_has version (piece ∷ pieces) key =
    (nat_lt piece.version version && holds piece.range key) || older_has version pieces key

-- what a key has once a range was cleared in each older piece
abbrev pub cleared : ℕ → KeyRange → List Piece → Bytes → Option Bytes → Option Bytes
cleared version range [] key old = old
cleared version range (piece ∷ pieces) key old =
    cleared version range pieces key
    (if (nat_lt piece.version version && holds piece.range key) && holds range key then None
    else old)

-- what mutations leave at a key, if they are made there
abbrev pub effects_if : Bool → ℕ → List Mutation → Bytes → Option Bytes → Option Bytes
effects_if made limit [] key old = old
effects_if made limit (m ∷ ms) key old =
    effects_if made limit ms key (if made then effect limit m key old else old)

-- the link gives a version up to the last for a key that has a value since a version
abbrev pub is_due : Option ℕ → LoadedLink → ℕ → ℕ → Bool
is_due None link upto version = false
is_due (Some since) link upto version =
    is_within (max link.from (since + 1)) (min link.to (upto + 1)) version

-- the link gives the version, and it is up to the last
abbrev pub gives : LoadedLink → ℕ → ℕ → Bool
gives link upto version = is_within link.from (min link.to (upto + 1)) version

-- some batch is past the version, and the link gives it
abbrev pub some_batch_past : ℕ → LoadedLink → List Batch → ℕ → Bool
some_batch_past version link [] upto = false
some_batch_past version link (batch ∷ batches) upto =
    (nat_lt version batch.version && gives link upto batch.version)
    || some_batch_past version link batches upto

-- some link gives a batch past the version
abbrev pub some_past : ℕ → List LoadedLink → ℕ → Bool
some_past version [] upto = false
some_past version (link ∷ links) upto =
    some_batch_past version link link.chunk.batches upto || some_past version links upto

-- what a link's batches up to the last leave at a key that has a value since a version
abbrev pub batches_since : Option ℕ → LoadedLink → List Batch → ℕ → Bytes → Option Bytes
    → Option Bytes
batches_since since link [] upto key old = old
batches_since since link (batch ∷ batches) upto key old =
    batches_since since link batches upto key
    (if is_due since link upto batch.version then effects link.limit batch.muts key old else old)

-- what the links leave
abbrev pub links_since : Option ℕ → List LoadedLink → ℕ → Bytes → Option Bytes → Option Bytes
links_since since [] upto key old = old
links_since since (link ∷ links) upto key old =
    links_since since links upto key
    (batches_since since link link.chunk.batches upto key old)
