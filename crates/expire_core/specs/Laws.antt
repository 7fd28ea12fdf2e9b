-- What holds of every expire.
use Rattle.std.specs.Prelude.{◌≡◌, ◌≢◌, ℕ, ◌≤◌, Bool, true, false, ◌⊎◌, List, [], ◌++◌}
use Rattle.std.specs.Prelude.{Option, Some, None, Ok, Err}
use Rattle.fb_bytes.specs.Bytes.{Bytes}
use Rattle.fb_bytes.specs.Limits.{most_number}
use Rattle.fb_outside.specs.Files.{AreFiles, file_of}
use Rattle.fb_outside.specs.declared.File.{File}
use Rattle.file_names.specs.Spelling.{unreliable_text, expired_text}
use Rattle.container_view.specs.Folder.{Folder}
use Rattle.container_view.specs.Advertised.{is_advertised}
use Rattle.container_view.specs.Containers.{AreRising}
use Rattle.container_view.specs.Files.{Grammars, name_in, inside, folder_of, folder_in}
use Rattle.container_view.specs.Honest.{IsHonestStore}
use Rattle.container_view.specs.Law.{Source}
use Rattle.container_view.specs.Property.{property_in}
use Rattle.expire_core.specs.declared.expiring.ExpireFault.TheVariants.{CannotExpire}
use Rattle.expire_core.specs.Plan.{raised}
use Rattle.expire_core.specs.Changes.{Change, all_changed, changes_for}
use Rattle.expire_core.specs.Expiry.{Expiry, expiry_of}

-- an expire of a container in a store, up to a cutoff that is a version
pub record ExpiresIn (g : Grammars) (container : Bytes) (files : List File) (folder : Folder)
    (expiry : Expiry) : Type 0 where
  pub ordered : AreFiles files
  pub decoded : folder_in g container files ≡ Some folder
  pub cutoff : ℕ
  pub within : cutoff ≤ most_number
  pub wanted : ℕ
  pub force : Bool
  pub is : expiry_of (inside container files) cutoff wanted force ≡ Ok expiry

-- the changes that an expire makes
abbrev pub changes_in : Bytes → Expiry → List Change
changes_in container expiry = changes_for container expiry.plan expiry.expired

-- the folder with another unreliable end
abbrev pub raised_to : ℕ → Folder → Folder
raised_to end folder = record folder { unreliable = end }

-- The container has this unreliable end, and advertises just what the old folder would with it.
pub record Advertises (g : Grammars) (container : Bytes) (files : List File) (old : Folder)
    (end : ℕ) : Type 0 where
  pub folder : Folder
  pub decoded : folder_in g container files ≡ Some folder
  pub unreliable : folder.unreliable ≡ end
  pub same : (version : ℕ) → is_advertised folder version
      ≡ is_advertised (raised_to end old) version

-- From the first change on, whatever further changes are made, no version is advertised less or
-- more: to raise the unreliable end decides it, and what is deleted after that no version needs.
abbrev pub StaysLaw : Type 0
StaysLaw = (g : Grammars) (container : Bytes) (files : List File) (folder : Folder)
    (expiry : Expiry) → ExpiresIn g container files folder expiry → (made left : List Change)
    → made ≢ [] → changes_in container expiry ≡ made ++ left
    → Advertises g container (all_changed made files) folder expiry.plan.unreliable

-- a property of the container has this number
abbrev pub HasNumber : Bytes → List File → Bytes → ℕ → Type 0
HasNumber container files property number = property_in (file_of (inside container files) property)
    ≡ Some (Some number)

-- neither property falls
pub record RaiseLaw : Type 0 where
  pub unreliable : (g : Grammars) (container : Bytes) (files : List File) (folder : Folder)
      (expiry : Expiry) → ExpiresIn g container files folder expiry → folder.unreliable
      ≤ expiry.plan.unreliable
  pub expired : (g : Grammars) (container : Bytes) (files : List File) (folder : Folder)
      (expiry : Expiry) → ExpiresIn g container files folder expiry → (number : ℕ)
      → HasNumber container files expired_text number → number ≤ expiry.expired
  -- once all changes are made, a reader finds both numbers
  pub both : (g : Grammars) (container : Bytes) (files : List File) (folder : Folder)
      (expiry : Expiry) → ExpiresIn g container files folder expiry → HasNumber container
      (all_changed (changes_in container expiry) files) unreliable_text expiry.plan.unreliable
      × HasNumber container (all_changed (changes_in container expiry) files) expired_text
      expiry.expired

-- the greatest version that the folder advertises; none where it advertises none
abbrev pub IsGreatest : Folder → Option ℕ → Type 0
IsGreatest folder None = (version : ℕ) → is_advertised folder version ≡ false
IsGreatest folder (Some left) = (is_advertised folder left ≡ true)
    × ((version : ℕ) → is_advertised folder version ≡ true → version ≤ left)

-- the folder advertises no version at or past the wanted one
abbrev pub IsShort : Folder → ℕ → Type 0
IsShort folder wanted = (version : ℕ) → wanted ≤ version → is_advertised folder version ≡ false

-- the folder advertises a version at or past the wanted one
abbrev pub HasWanted : Folder → ℕ → Type 0
HasWanted folder wanted =
    (version : ℕ) × (wanted ≤ version) × (is_advertised folder version ≡ true)

-- what a refusal says, with the unreliable end raised
pub record Refuses (folder : Folder) (wanted : ℕ) (force : Bool) (told : ℕ)
    (left : Option ℕ) : Type 0 where
  pub unforced : force ≡ false
  pub wanted_is : told ≡ wanted
  pub short : IsShort folder wanted
  pub greatest : IsGreatest folder left

pub record RefusalLaw : Type 0 where
  -- an expire is refused only where it isn't forced and, with the unreliable end raised, no version
  -- at or past the wanted one would stay
  pub refused : (g : Grammars) (files : List File) (folder : Folder) (cutoff wanted : ℕ)
      (force : Bool) (told : ℕ) (left : Option ℕ) → folder_of g files ≡ Some folder
      → expiry_of files cutoff wanted force ≡ Err (CannotExpire told left)
      → Refuses (raised_to (raised cutoff (Some folder.unreliable)) folder) wanted force told left
  -- and an expire that isn't refused is forced, or leaves such a version
  pub allowed : (g : Grammars) (files : List File) (folder : Folder) (cutoff wanted : ℕ)
      (force : Bool) (expiry : Expiry) → folder_of g files ≡ Some folder
      → expiry_of files cutoff wanted force ≡ Ok expiry
      → (force ≡ true) ⊎ HasWanted (raised_to expiry.plan.unreliable folder) wanted

-- After each of its changes an honest container is honest, and what it advertises can be relied on.
abbrev pub HonestLaw : Type 0
HonestLaw = (g : Grammars) (s : Source) (container : Bytes) (files : List File) (folder : Folder)
    (expiry : Expiry) → ExpiresIn g container files folder expiry
    → IsHonestStore g s container files → (made left : List Change)
    → changes_in container expiry ≡ made ++ left
    → IsHonestStore g s container (all_changed made files)

-- the names of a container's files rise in byte order, and so do those that are deleted
abbrev pub OrderLaw : Type 0
OrderLaw = (container : Bytes) (files : List File) (cutoff wanted : ℕ) (force : Bool)
    (expiry : Expiry) → AreFiles files
    → expiry_of (inside container files) cutoff wanted force ≡ Ok expiry
    → AreRising expiry.plan.names

-- an expire touches no file outside its container
abbrev pub ElsewhereLaw : Type 0
ElsewhereLaw = (container : Bytes) (expiry : Expiry) (made left : List Change)
    → changes_in container expiry ≡ made ++ left → (files : List File) (whole : Bytes)
    → name_in container whole ≡ None
    → file_of (all_changed made files) whole ≡ file_of files whole
