-- What a reader first learns of a container, through a store's calls.
use Rattle.std.specs.Prelude.{List, [], ◌∷◌, Option, Some, None}
use Rattle.std.specs.List.{flat_map}
use Rattle.fb_bytes.specs.Bytes.{Bytes}
use Rattle.fb_outside.specs.declared.VaultFail.{VaultFail}
use Rattle.fb_outside.specs.declared.VaultFail.TheVariants as fails
use Rattle.container_view.specs.declared.view.ViewFault.{ViewFault}
use Rattle.container_view.specs.declared.view.ViewFault.TheVariants as faults
use Rattle.container_view.specs.Files.{name_in}

-- a store's fault, as a reader of a container tells it
abbrev pub view_fault_of : VaultFail → ViewFault
view_fault_of fails.Failed = faults.VaultFault
view_fault_of fails.NoMemory = faults.NoMemory

abbrev pub as_list : Option Bytes → List Bytes
as_list None = []
as_list (Some name) = name ∷ []

-- whole names as they stand in the container; those of other files fall away
abbrev pub stripped : Bytes → List Bytes → List Bytes
stripped container names = flat_map (λ name. as_list (name_in container name)) names
