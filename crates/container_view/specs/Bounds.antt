-- How far logs go, and the least and the greatest version that a container advertises.
use Rattle.std.specs.Prelude.{◌≡◌, ℕ, zero, suc, ◌-◌, ◌≤◌, ◌↔◌, max, min, Bool, true, false, ◌&&◌}
use Rattle.std.specs.Prelude.{◌||◌, List, [], ◌∷◌, Option, Some, None, is_some, if◌then◌else◌}
use Rattle.std.specs.Prelude.{nat_lt, nat_le, ◌==◌}
pub use Rattle.container_view.specs.declared.versions.Bounds.{Bounds}
use Rattle.container_view.specs.Folder.{LogFile, ManifestFile, Folder}
use Rattle.container_view.specs.Chain.{best_log, chain}
use Rattle.container_view.specs.Advertised.{gives, is_advertised}

-- the greatest end of the log files, 0 without one
abbrev pub last_end : List LogFile → ℕ
last_end [] = 0
last_end (file ∷ files) = max file.end (last_end files)

-- on from the end of a file, or the version itself without one
abbrev pub on_from : (LogFile → ℕ) → ℕ → Option LogFile → ℕ
on_from next version None = version
on_from next version (Some file) = next file

-- where chains from the version end, after at most `most` links
abbrev pub reached_in : ℕ → List LogFile → ℕ → ℕ
reached_in zero logs version = version
reached_in (suc most) logs version =
    on_from (λ file. reached_in most logs file.end) version (best_log logs version)

-- The end that is reached by following chains from the version. Each link has a version at least,
-- and ends no later than the last log.
abbrev pub reached : List LogFile → ℕ → ℕ
reached logs version = reached_in (last_end logs - version) logs version

-- chains from a version exist exactly to the ends up to the one that is reached
abbrev pub ReachLaw : Type 0
ReachLaw = (folder : Folder) (begin end : ℕ) → (is_some (chain folder begin end) ≡ true)
    ↔ (end ≤ reached folder.logs begin)

-- the bounds of the versions that a manifest gives: they go from its end to the last version of the
-- logs from its begin on, and its end is among them where it is of that version alone
abbrev pub given : Folder → ManifestFile → Option Bounds
given folder m =
    if nat_le folder.unreliable m.begin
    && (nat_lt m.end (reached folder.logs m.begin) || m.begin == m.end)
    then Some (record { least = m.end; greatest = max m.end (reached folder.logs m.begin - 1) })
    else None

-- the test of a manifest from begin to end, by the ends that are reached and the unreliable end
abbrev pub is_given : (ℕ → ℕ) → ℕ → ℕ → ℕ → ℕ → Bool
is_given reach unreliable begin end version =
    nat_le end version && nat_le unreliable begin
    && (nat_lt version (reach begin) || (begin == version && end == version))

-- it lies between the bounds, where there are any
abbrev pub IsBetween : Option Bounds → ℕ → Type 0
IsBetween None version = ⊥
IsBetween (Some bounds) version = (bounds.least ≤ version) × (version ≤ bounds.greatest)

-- a manifest gives each version between its bounds, and no other
abbrev pub GivenLaw : Type 0
GivenLaw = (folder : Folder) (m : ManifestFile) (version : ℕ) → (gives folder version m ≡ true)
    ↔ IsBetween (given folder m) version

-- the bounds of both
abbrev pub wider : Option Bounds → Option Bounds → Option Bounds
wider None other = other
wider (Some a) None = Some a
wider (Some a) (Some b) =
    Some (record { least = min a.least b.least; greatest = max a.greatest b.greatest })

-- the bounds of all versions that some of these manifests give
abbrev pub given_by : Folder → List ManifestFile → Option Bounds
given_by folder [] = None
given_by folder (m ∷ ms) = wider (given folder m) (given_by folder ms)

abbrev pub advertised_bounds : Folder → Option Bounds
advertised_bounds folder = given_by folder folder.manifests

-- the bounds are advertised themselves, and each advertised version lies between them
pub record AreLeastAndGreatest (folder : Folder) (bounds : Bounds) : Type 0 where
  pub least : is_advertised folder bounds.least ≡ true
  pub greatest : is_advertised folder bounds.greatest ≡ true
  pub between : (version : ℕ) → is_advertised folder version ≡ true → (bounds.least ≤ version)
      × (version ≤ bounds.greatest)

-- the least and the greatest advertised version; none where no version is advertised
abbrev pub AreBounds : Folder → Option Bounds → Type 0
AreBounds folder None = (version : ℕ) → is_advertised folder version ≡ false
AreBounds folder (Some bounds) = AreLeastAndGreatest folder bounds

abbrev pub BoundsLaw : Type 0
BoundsLaw = (folder : Folder) → AreBounds folder (advertised_bounds folder)
