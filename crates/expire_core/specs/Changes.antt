-- The changes that an expire makes to a store's files, one at a time.
use Rattle.std.specs.Prelude.{◌≡◌, ℕ, List, [], ◌∷◌, ◌++◌, map, Option, option_map, decimal}
use Rattle.fb_bytes.specs.Bytes.{Bytes}
use Rattle.fb_outside.specs.Files.{with_file, without_file}
use Rattle.fb_outside.specs.declared.File.{File}
use Rattle.file_names.specs.Spelling.{unreliable_text, expired_text}
use Rattle.container_view.specs.Files.{whole_name}
use Rattle.expire_core.specs.Plan.{ExpirePlan}

-- bytes come under a whole name, or the file of a whole name goes
pub data Change : Type 0 where
  Put : (whole bytes : Bytes) → Change
  Delete : (whole : Bytes) → Change

abbrev pub changed : Change → List File → List File
changed (Put whole bytes) files = with_file files whole bytes
changed (Delete whole) files = without_file files whole

-- the files after these changes, in their order
abbrev pub all_changed : List Change → List File → List File
all_changed [] files = files
all_changed (change ∷ changes) files = all_changed changes (changed change files)

-- a property of a container gets a number
abbrev pub setting : Bytes → Bytes → ℕ → Change
setting container property number = Put (whole_name container property) (decimal number)

-- a container's file goes
abbrev pub deletion : Bytes → Bytes → Change
deletion container name = Delete (whole_name container name)

-- What an expire changes, in its order: first the unreliable end is raised, then the planned files
-- go, and last the expired end is raised.
abbrev pub changes_for : Bytes → ExpirePlan → ℕ → List Change
changes_for container plan expired =
    setting container unreliable_text plan.unreliable
    ∷ (map (deletion container) plan.names ++ setting container expired_text expired ∷ [])

-- Some of these changes were made, those at the front, and no other.
pub record StopsIn (changes : List Change) (before after : Option (List File)) : Type 0 where
  pub made : List Change
  pub left : List Change
  pub is : changes ≡ made ++ left
  pub files : after ≡ option_map (all_changed made) before
