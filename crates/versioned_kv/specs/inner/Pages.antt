-- What a part of a scan gives.
use Rattle.std.specs.Prelude.{◌≡◌, ℕ, ◌≤◌, List, [], ◌∷◌, ◌++◌, length, Option}
use Rattle.std.specs.Prelude.{Some, None, unwrap_or, if◌then◌else◌}
use Rattle.fb_bytes.specs.Bytes.{Bytes}
use Rattle.fb_bytes.specs.declared.KeyRange.{KeyRange}
use Rattle.fb_bytes.specs.Keys.{holds}
use Rattle.fb_bytes.specs.declared.Pair.{Pair}
use Rattle.versioned_kv.specs.Chains.{Chain, value_in, value_at}
use Rattle.versioned_kv.specs.Pages.{IsNext}

-- the pair of a key with its value, where it has one
abbrev pub pair_of : Bytes → Option Bytes → List Pair
pair_of key None = []
pair_of key (Some value) = record { key = key; value = value } ∷ []

-- the pairs of a range at a version
abbrev pub pairs_in : KeyRange → ℕ → List Chain → List Pair
pairs_in range version [] = []
pairs_in range version (chain ∷ chains) =
    (if holds range chain.key then pair_of chain.key (value_in chain.rows version None) else [])
    ++ pairs_in range version chains

-- the range up to the key that is left
abbrev pub range_upto : KeyRange → Option Bytes → KeyRange
range_upto range next = record { begin = range.begin; end = unwrap_or next range.end }

-- To earlier pairs those of the chains were added, up to the key that is left.
pub record IsPart (range : KeyRange) (version limit : ℕ) (chains : List Chain) (old new : List Pair)
    (next : Option Bytes) : Type 0 where
  pub pairs : new ≡ old ++ pairs_in (range_upto range next) version chains
  pub few : length new ≤ limit
  pub left : IsNext (λ key. value_at chains key version) range limit new next
