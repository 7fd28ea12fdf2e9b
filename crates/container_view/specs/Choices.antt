-- What chains and the choice of a manifest are, told without the functions that compute them.
use Rattle.std.specs.Prelude.{◌≡◌, ℕ, ◌<◌, ◌≤◌, true, false, ◌⊎◌, List, [], ◌∷◌, Some, is_some}
use Rattle.std.specs.Prelude.{if◌then◌else◌, nat_le}
use Rattle.fb_bytes.specs.Bytes.{Bytes, is_below}
use Rattle.fb_bytes.specs.Options.{IsIn, ◌>>=◌}
use Rattle.container_view.specs.Folder.{LogFile, ManifestFile, Folder}
use Rattle.container_view.specs.Chain.{best_log, chain}
use Rattle.container_view.specs.Advertised.{gives, chosen}

-- one of the log files has the version
abbrev pub HasVersion : List LogFile → ℕ → Type 0
HasVersion logs version = (f : LogFile) × IsIn f logs × (f.begin ≤ version) × (version < f.end)

-- the other doesn't come before this one: it has a lesser end, or the same end and no lesser name
abbrev pub IsNoBetter : ℕ → Bytes → ℕ → Bytes → Type 0
IsNoBetter other_end other_name end name =
    (other_end < end) ⊎ ((other_end ≡ end) × (is_below other_name name ≡ false))

pub record ChainLaw : Type 0 where
  -- the chain's defining equation, with no bound on its links
  pub step : (folder : Folder) (version end : ℕ)
      → chain folder version end
      ≡ (if nat_le end version then Some []
      else (best_log folder.logs version >>= λ f. chain folder f.end end
      >>= λ rest. Some (record { file = f; from = version; to = f.end } ∷ rest)))
  -- a link is the best of the files that have its version
  pub best : (logs : List LogFile) (version : ℕ) (f g : LogFile) → best_log logs version ≡ Some f
      → IsIn g logs → g.begin ≤ version → version < g.end → IsNoBetter g.end g.name f.end f.name
  -- a chain exists exactly where no version is missing
  pub no_gap : (folder : Folder) (begin end : ℕ) → is_some (chain folder begin end) ≡ true
      → (version : ℕ) → begin ≤ version → version < end → HasVersion folder.logs version
  pub whole : (folder : Folder) (begin end : ℕ)
      → ((version : ℕ) → begin ≤ version → version < end → HasVersion folder.logs version)
      → is_some (chain folder begin end) ≡ true

pub record ChosenLaw : Type 0 where
  -- the chosen one is one that gives the version, and no other that does is better
  pub gives_it : (folder : Folder) (version : ℕ) (m : ManifestFile) → chosen folder version ≡ Some m
      → (gives folder version m ≡ true) × IsIn m folder.manifests
  pub best : (folder : Folder) (version : ℕ) (m other : ManifestFile)
      → chosen folder version ≡ Some m → IsIn other folder.manifests → gives folder version other
      ≡ true → IsNoBetter other.end other.name m.end m.name
  -- there is one where some manifest gives the version
  pub exists : (folder : Folder) (version : ℕ) (m : ManifestFile) → IsIn m folder.manifests
      → gives folder version m ≡ true → is_some (chosen folder version) ≡ true
