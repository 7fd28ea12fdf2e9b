-- What may happen to a container: its source grows, and files come and go one at a time.
use Rattle.std.specs.Prelude.{◌≡◌, ℕ, ◌<◌, ◌≤◌, false, List, [], ◌∷◌, ◌++◌, Some}
use Rattle.std.specs.List.{AllByRecursion}
use Rattle.fb_bytes.specs.Bytes.{Bytes, is_same}
use Rattle.fb_bytes.specs.Options.{IsIn}
use Rattle.mutations.specs.declared.Entry.{Entry}
use Rattle.mutations.specs.Histories.{IsRising}
use Rattle.container_view.specs.Folder.{RangeFile, LogFile, ManifestFile, Folder}
use Rattle.container_view.specs.Law.{Source, IsHonestRange, IsHonestLog, IsHonestManifest, IsHonest}
use Rattle.container_view.specs.Law.{IsFaithful}

-- many has x at some place, and few doesn't have it there
pub record Inserts {X : Type 0} (x : X) (few many : List X) : Type 0 where
  pub before : List X
  pub after : List X
  pub few_is : few ≡ before ++ after
  pub many_is : many ≡ before ++ x ∷ after

-- time goes on, and entries may come, each after the old now
pub record Grows (old new : Source) : Type 0 where
  pub later : List Entry
  pub history : new.history ≡ old.history ++ later
  pub rising : IsRising later
  pub between : AllByRecursion (λ x. (old.now < x.version) × (x.version ≤ new.now)) later
  pub now : old.now ≤ new.now
  pub ranges : new.ranges ≡ old.ranges
  pub block : new.block ≡ old.block

-- no manifest of the folder lists the name
abbrev pub IsListedNowhere : Folder → Bytes → Type 0
IsListedNowhere folder name =
    (m : ManifestFile) (names : List Bytes) → IsIn m folder.manifests → m.content ≡ Some names
    → IsIn name names → ⊥

-- one step on the files, while the source stands still
pub data Changes (s : Source) (old new : Folder) : Type 0 where
  -- a range file under a name that no range file has
  PutRange : (file : RangeFile) (ranges : List RangeFile) → IsHonestRange s file
      → AllByRecursion (λ f. is_same f.name file.name ≡ false) old.ranges
      → Inserts file old.ranges ranges → new ≡ record old { ranges = ranges } → Changes s old new
  PutLog : (file : LogFile) (logs : List LogFile) → IsHonestLog s file → Inserts file old.logs logs
      → new ≡ record old { logs = logs } → Changes s old new
  PutManifest : (file : ManifestFile) (manifests : List ManifestFile)
      → (old.unreliable ≤ file.begin → IsHonestManifest s old.ranges file)
      → Inserts file old.manifests manifests → new ≡ record old { manifests = manifests }
      → Changes s old new
  -- the unreliable end never falls
  Raise : (end : ℕ) → old.unreliable ≤ end → new ≡ record old { unreliable = end }
      → Changes s old new
  -- a range file below the unreliable end
  DropRange : (file : RangeFile) (ranges : List RangeFile) → file.version < old.unreliable
      → Inserts file ranges old.ranges → new ≡ record old { ranges = ranges } → Changes s old new
  -- a range file that no manifest lists
  DropUnlisted : (file : RangeFile) (ranges : List RangeFile) → IsListedNowhere old file.name
      → Inserts file ranges old.ranges → new ≡ record old { ranges = ranges } → Changes s old new
  DropLog : (file : LogFile) (logs : List LogFile) → Inserts file logs old.logs
      → new ≡ record old { logs = logs } → Changes s old new
  DropManifest : (file : ManifestFile) (manifests : List ManifestFile)
      → Inserts file manifests old.manifests → new ≡ record old { manifests = manifests }
      → Changes s old new

-- honest files stay honest while the history grows
abbrev pub GrowthLaw : Type 0
GrowthLaw = (old new : Source) (folder : Folder) → Grows old new → IsHonest old folder
    → IsHonest new folder

-- honest files stay honest as one of them comes or goes
abbrev pub ChangeLaw : Type 0
ChangeLaw = (s : Source) (old new : Folder) → Changes s old new → IsHonest s old → IsHonest s new

-- a folder without files
abbrev pub no_files : Folder
no_files = record { ranges = []; logs = []; manifests = []; unreliable = 0 }

-- the life of a container: what may have become of it, from an empty folder on
pub data Reaches : Source → Folder → Type 0 where
  Opens : (s : Source) → IsRising s.history → AllByRecursion (λ x. x.version ≤ s.now) s.history
      → Reaches s no_files
  Waits : {old : Source} {folder : Folder} (new : Source) → Reaches old folder → Grows old new
      → Reaches new folder
  Works : {s : Source} {old : Folder} (new : Folder) → Reaches s old → Changes s old new
      → Reaches s new

-- at each moment of its life a container is faithful
abbrev pub LifeLaw : Type 0
LifeLaw = (s : Source) (folder : Folder) → Reaches s folder → IsFaithful s folder
