-- The order of keys and rows, and where a key stands.
use Rattle.std.specs.Prelude.{◌≡◌, ℕ, ◌<◌, Bool, true, List, [], ◌∷◌, length}
use Rattle.std.specs.List.{AllByRecursion}
use Rattle.fb_bytes.specs.Bytes.{Bytes, is_below}
use Rattle.versioned_kv.specs.declared.chain.Row.{Row}
use Rattle.versioned_kv.specs.declared.chain.Chain.{Chain}
use Rattle.versioned_kv.specs.Chains.{front_len}

-- the versions of rows rise
abbrev pub AreRising : List Row → Type 0
AreRising [] = Unit {0}
AreRising (row ∷ rows) = AllByRecursion (λ later. row.version < later.version) rows × AreRising rows

-- in the order of their keys, each key once, each with a row or more
abbrev pub AreChains : List Chain → Type 0
AreChains [] = Unit {0}
AreChains (chain ∷ chains) =
    AllByRecursion (λ later. is_below chain.key later.key ≡ true) chains × (0 < length chain.rows)
    × AreRising chain.rows × AreChains chains

-- how many keys come before a key
abbrev pub has_key_below : Bytes → Chain → Bool
has_key_below key chain = is_below chain.key key

abbrev pub keys_below : Bytes → List Chain → ℕ
keys_below key chains = front_len (has_key_below key) chains
