-- Keys in chunks that are joined in order.
use Rattle.std.specs.Prelude.{◌≡◌, ℕ, suc, ◌<◌, true, List, [], ◌∷◌, ◌++◌, length, take, drop}
use Rattle.std.specs.List.{AllByRecursion}
use Rattle.fb_bytes.specs.Bytes.{Bytes, is_below}
use Rattle.versioned_kv.specs.Chains.{Chain}

-- the entries of all chunks, one chunk after the other
abbrev pub joined : List (List Chain) → List Chain
joined [] = []
joined (chunk ∷ chunks) = chunk ++ joined chunks

-- no chunk is empty
abbrev pub AreFilled : List (List Chain) → Type 0
AreFilled chunks = AllByRecursion (λ chunk. 0 < length chunk) chunks

-- keys below a key, and keys past it
abbrev pub AreKeysBelow : Bytes → List Chain → Type 0
AreKeysBelow key chains = AllByRecursion (λ chain. is_below chain.key key ≡ true) chains

abbrev pub AreKeysPast : Bytes → List Chain → Type 0
AreKeysPast key chains = AllByRecursion (λ chain. is_below key chain.key ≡ true) chains

-- A key belongs to the chunk at a place: those before it have lower keys, and those behind it
-- greater ones.
pub record BelongsTo (key : Bytes) (place : ℕ) (chunks : List (List Chain)) : Type 0 where
  pub before : AreKeysBelow key (joined (take place chunks))
  pub behind : AreKeysPast key (joined (drop (suc place) chunks))
