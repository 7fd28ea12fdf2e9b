-- What an expire comes to, of a container in a store.
use Rattle.std.specs.Prelude.{◌≡◌, ℕ, Bool, List, [], length, Option, Some, Result, Ok, Err}
use Rattle.std.specs.Prelude.{◌⊎◌}
use Rattle.fb_bytes.specs.Bytes.{Bytes}
use Rattle.fb_bytes.specs.Results.{◌>>=◌}
use Rattle.fb_outside.specs.declared.File.{File}
use Rattle.container_view.specs.Description.{IsOfDescribing}
use Rattle.container_view.specs.Sets.{with_properties}
use Rattle.container_view.specs.declared.ViewFault.{ViewFault}
use Rattle.container_view.specs.declared.ViewFault.TheVariants as views
pub use Rattle.expire_core.specs.declared.listing.Listing.{Listing}
pub use Rattle.expire_core.specs.declared.expiring.Expiry.{Expiry}
pub use Rattle.expire_core.specs.declared.expiring.ExpireFault.{ExpireFault}
use Rattle.expire_core.specs.declared.expiring.ExpireFault.TheVariants.{View, CannotExpire}
use Rattle.expire_core.specs.Plan.{PlanFault, raised, planned}
use Rattle.expire_core.specs.declared.planning.PlanFault.TheVariants as plans
use Rattle.expire_core.specs.Changes.{Change, all_changed, changes_for}

-- a container's names and the numbers of its properties, where both were read
abbrev pub listed : List Bytes → Option ℕ → Option ℕ → Result Listing ViewFault
listed names unreliable expired =
    Ok (record { names = names; unreliable = unreliable; expired = expired })

-- What is read of a container before it is expired, or the first fault: that it has no file, a
-- property, unreliable first.
abbrev pub listing_of : List File → Result Listing ViewFault
listing_of files = with_properties files listed

-- a fault of reading, as one of the expire
abbrev pub viewed : {A : Type 0} → Result A ViewFault → Result A ExpireFault
viewed (Ok x) = Ok x
viewed (Err fault) = Err (View fault)

-- a fault of planning, as one of the expire
abbrev pub expire_fault_of : PlanFault → ExpireFault
expire_fault_of (plans.CannotExpire wanted left) = CannotExpire wanted left
expire_fault_of plans.NoMemory = View views.NoMemory

abbrev pub as_planned : {A : Type 0} → Result A PlanFault → Result A ExpireFault
as_planned (Ok x) = Ok x
as_planned (Err fault) = Err (expire_fault_of fault)

-- the same by what was read of the container
abbrev pub expiry_by : Listing → ℕ → ℕ → Bool → Result Expiry ExpireFault
expiry_by listing cutoff wanted force = do
  plan ← as_planned (planned listing.names listing.unreliable cutoff wanted force)
  Ok (record { plan = plan; expired = raised cutoff listing.expired })

-- what an expire of a container with these files does, or its first refusal
abbrev pub expiry_of : List File → ℕ → ℕ → Bool → Result Expiry ExpireFault
expiry_of files cutoff wanted force = do
  listing ← viewed (listing_of files)
  expiry_by listing cutoff wanted force

-- what is changed in the container; a refused expire changes nothing
abbrev pub changes_of : Bytes → Result Expiry ExpireFault → List Change
changes_of container (Ok expiry) = changes_for container expiry.plan expiry.expired
changes_of container (Err fault) = []

-- all changes were made, and as many files were deleted as were planned
pub record IsExpired (container : Bytes) (expiry : Result Expiry ExpireFault) (files : List File)
    (after : Option (List File)) (deleted : ℕ) : Type 0 where
  pub done : Expiry
  pub is : expiry ≡ Ok done
  pub files_are : after ≡ Some (all_changed (changes_of container expiry) files)
  pub count : deleted ≡ length done.plan.names

-- a failed call answers a fault of the store, want of memory, or the first refusal
abbrev pub FailsIn : {A : Type 0} → ExpireFault → Result A ExpireFault → Type 0
FailsIn fault reading =
    (fault ≡ View views.VaultFault)
    ⊎ ((fault ≡ View views.NoMemory) ⊎ (reading ≡ Err fault))

-- the faults that an expire may meet
abbrev pub IsOfExpiring : ExpireFault → Type 0
IsOfExpiring (View fault) = IsOfDescribing fault
IsOfExpiring (CannotExpire wanted left) = Unit {0}

-- neither a fault of the store nor want of memory
abbrev pub IsRefusal : ExpireFault → Type 0
IsRefusal (View views.VaultFault) = ⊥
IsRefusal (View views.NoMemory) = ⊥
IsRefusal fault = Unit {0}
