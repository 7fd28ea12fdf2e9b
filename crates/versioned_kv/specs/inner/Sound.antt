-- What always holds of what a store keeps.
use Rattle.std.specs.Prelude.{ℕ, ◌<◌, List, [], ◌∷◌}
use Rattle.std.specs.List.{AllByRecursion}
use Rattle.fb_bytes.specs.Options.{IsIn}
use Rattle.versioned_kv.specs.Chains.{Chain}
use Rattle.versioned_kv.specs.inner.Chains.{AreChains}

-- versions rise
abbrev pub AreVersions : List ℕ → Type 0
AreVersions [] = Unit {0}
AreVersions (version ∷ versions) =
    AllByRecursion (λ later. version < later) versions × AreVersions versions

-- each row is of one of these versions
abbrev pub AreOf : List ℕ → List Chain → Type 0
AreOf versions chains =
    AllByRecursion (λ chain. AllByRecursion (λ row. IsIn row.version versions) chain.rows) chains

pub record IsSound (versions : List ℕ) (chains : List Chain) : Type 0 where
  pub versions_rise : AreVersions versions
  pub in_order : AreChains chains
  pub known : AreOf versions chains
