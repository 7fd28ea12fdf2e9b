-- The plan of a snapshot: a job's ranges, cut into pieces of so many keys.
use Rattle.std.specs.Prelude.{◌≡◌, ℕ, ◌+◌, ◌/◌, ◌%◌, ◌≤◌, ◌↔◌, Bool, true, not, ◌&&◌, nat_eq, List, [], ◌∷◌}
use Rattle.std.specs.Prelude.{length, flat_map, if◌then◌else◌}
use Rattle.std.specs.List.{AllByRecursion}
use Rattle.fb_bytes.specs.Bytes.{Bytes}
use Rattle.fb_bytes.specs.declared.KeyRange.{KeyRange}
use Rattle.fb_bytes.specs.Keys.{holds, in_ranges, AreSeparate}
use Rattle.fb_bytes.specs.Options.{IsIn}
use Rattle.fb_bytes.specs.declared.Pair.{Pair}
use Rattle.fb_bytes.specs.Pairs.{AreRising}
use Rattle.snapshot_plan.specs.Pieces.{ArePieces}

abbrev pub key_of : Pair → Bytes
key_of pair = pair.key

-- the keys of the pairs that the range has, in their order
abbrev pub keys_in : KeyRange → List Pair → List Bytes
keys_in range [] = []
keys_in range (pair ∷ pairs) =
    if holds range pair.key then pair.key ∷ keys_in range pairs else keys_in range pairs

-- there is a cut before the key at this place: the place is a positive multiple of the shard
abbrev pub is_cut : ℕ → ℕ → Bool
is_cut shard place = not (nat_eq place 0) && nat_eq (place % shard) 0

-- of keys, the first of which stands at this place, those before which there is a cut
abbrev pub cuts : ℕ → ℕ → List Bytes → List Bytes
cuts shard place [] = []
cuts shard place (key ∷ keys) =
    if is_cut shard place then key ∷ cuts shard (place + 1) keys else cuts shard (place + 1) keys

-- how many keys of the range stand before a key
abbrev pub place_in : KeyRange → List Pair → Bytes → ℕ
place_in range pairs key = length (keys_in (record { begin = range.begin; end = key }) pairs)

-- the range, cut before each of these keys
abbrev pub cut_before : List Bytes → KeyRange → List KeyRange
cut_before [] range = range ∷ []
cut_before (key ∷ keys) range =
    record { begin = range.begin; end = key }
    ∷ cut_before keys (record { begin = key; end = range.end })

-- a range, cut before each key whose place in it, counted from 0, is a positive multiple of the shard
abbrev pub pieces_in : ℕ → List Pair → KeyRange → List KeyRange
pieces_in shard pairs range = cut_before (cuts shard 0 (keys_in range pairs)) range

-- the pieces of all ranges
abbrev pub pieces : ℕ → List Pair → List KeyRange → List KeyRange
pieces shard pairs ranges = flat_map (pieces_in shard pairs) ranges

-- a plan of ranges: its pieces are in key order, none is empty, no two overlap, and together they hold
-- exactly the keys that the ranges hold
pub record IsPlan (ranges plan : List KeyRange) : Type 0 where
  pub pieces : ArePieces plan
  pub same : (key : Bytes) → in_ranges plan key ≡ in_ranges ranges key

-- what the pieces of ranges are
pub record PlanLaw : Type 0 where
  -- the cuts of a range are before exactly its keys whose place is a positive multiple of the shard
  pub cut : (shard : ℕ) (pairs : List Pair) (range : KeyRange) (key : Bytes) → AreRising pairs
      → IsIn key (cuts shard 0 (keys_in range pairs))
      ↔ (IsIn key (keys_in range pairs) × (is_cut shard (place_in range pairs key) ≡ true))
  pub plan : (shard : ℕ) (pairs : List Pair) (ranges : List KeyRange)
      → AreRising pairs → AreSeparate ranges → IsPlan ranges (pieces shard pairs ranges)
  -- no piece has more of the keys than the shard
  pub small : (shard : ℕ) (pairs : List Pair) (ranges : List KeyRange)
      → 1 ≤ shard → AreRising pairs → AreSeparate ranges
      → AllByRecursion (λ piece. length (keys_in piece pairs) ≤ shard)
      (pieces shard pairs ranges)
  -- and there are few
  pub few : (shard : ℕ) (pairs : List Pair) (ranges : List KeyRange)
      → 1 ≤ shard → AreRising pairs → AreSeparate ranges
      → length (pieces shard pairs ranges) ≤ length ranges + length pairs / shard
