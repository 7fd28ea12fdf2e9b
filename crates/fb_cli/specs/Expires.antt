-- What an expire of a container comes to.
use Rattle.std.specs.Prelude.{◌≡◌, ℕ, ◌≤◌, Bool, List, Option, Some, None, Result, Ok, Err, ◌⊎◌}
use Rattle.std.specs.Prelude.{IsSome, IfSome, ◌↔◌}
use Rattle.fb_bytes.specs.Bytes.{Bytes}
use Rattle.fb_bytes.specs.Limits.{most_number}
use Rattle.fb_outside.specs.declared.File.{File}
use Rattle.container_view.specs.Contents.{file_grammars}
use Rattle.container_view.specs.Files.{inside}
use Rattle.container_view.specs.Honest.{IsHonestStore}
use Rattle.container_view.specs.Law.{Source}
use Rattle.expire_core.specs.Changes.{StopsIn}
use Rattle.expire_core.specs.Expiry.{expiry_of, changes_of, IsExpired}
use Rattle.expire_core.specs.declared.Expiry.{Expiry}
use Rattle.expire_core.specs.declared.ExpireFault.{ExpireFault}
use Rattle.expire_core.specs.declared.ExpireFault.TheVariants as expires
use Rattle.report_text.specs.declared.Report.{Report}
use Rattle.report_text.specs.declared.Report.TheVariants as reports
use Rattle.fb_cli.specs.Outside.{Store}
use Rattle.fb_cli.specs.Restores.{refusal_of}
use Rattle.fb_cli.specs.declared.fault.Fault.{Fault}
use Rattle.fb_cli.specs.declared.fault.Fault.TheVariants.{VaultFault, Damaged, CannotExpire}
use Rattle.fb_cli.specs.declared.fault.Fault.TheVariants.{NoMemory, NoContainer}

-- the report tells how many files were deleted
abbrev pub TellsDeleted : Report → ℕ → Type 0
TellsDeleted (reports.Expired deleted) count = deleted ≡ count
TellsDeleted report count = ⊥

-- All changes of the expire were made, and the report tells how many files were deleted.
pub record TellsExpiry
    (container : Bytes)
    (expiry : Result Expiry ExpireFault)
    (files : List File)
    (after : Option (List File))
    (report : Report) : Type 0 where
  pub deleted : ℕ
  pub told : TellsDeleted report deleted
  pub done : IsExpired container expiry files after deleted

-- the refusal by what an expire was refused for
abbrev pub refusal_of_expire : ExpireFault → Fault
refusal_of_expire (expires.View fault) = refusal_of fault
refusal_of_expire (expires.CannotExpire wanted left) = CannotExpire wanted left

-- The first refusal of the expire is the command's. A fault of the store and want of memory may
-- come in its place, and in that of a report.
abbrev pub HasExpireCause : Result Expiry ExpireFault → Option Fault → Type 0
HasExpireCause (Ok expiry) fault =
    (fault ≡ None) ⊎ ((fault ≡ Some VaultFault) ⊎ (fault ≡ Some NoMemory))
HasExpireCause (Err found) fault =
    (fault ≡ Some (refusal_of_expire found))
    ⊎ ((fault ≡ Some VaultFault) ⊎ (fault ≡ Some NoMemory))

-- the refusals that an expire may come to
abbrev pub IsOfExpire : Option Fault → Type 0
IsOfExpire None = Unit {0}
IsOfExpire (Some VaultFault) = Unit {0}
IsOfExpire (Some (Damaged name fault)) = Unit {0}
IsOfExpire (Some (CannotExpire wanted left)) = Unit {0}
IsOfExpire (Some NoMemory) = Unit {0}
IsOfExpire (Some NoContainer) = Unit {0}
IsOfExpire fault = ⊥

-- refused for what the container is, and neither by the store nor for want of memory
abbrev pub IsExpireRefusal : Option Fault → Type 0
IsExpireRefusal (Some (Damaged name fault)) = Unit {0}
IsExpireRefusal (Some (CannotExpire wanted left)) = Unit {0}
IsExpireRefusal (Some NoContainer) = Unit {0}
IsExpireRefusal fault = ⊥

-- The store tells its files after the call, and in them the container is honest.
pub record LeavesHonest (source : Source) (container : Bytes)
    (after : Option (List File)) : Type 0 where
  pub files : List File
  pub told : after ≡ Some files
  pub honest : IsHonestStore file_grammars source container files

-- An expire of a container of a file store.
pub record Expires
    (container : Bytes)
    (cutoff wanted : ℕ)
    (force : Bool)
    (store : Store)
    (report : Option Report)
    (fault : Option Fault) : Type 0 where
  -- a report comes exactly without a refusal, and tells that all was done
  pub reported : IsSome report ↔ (fault ≡ None)
  pub done : (files : List File) → store.before ≡ Some files →
      IfSome report (TellsExpiry container
      (expiry_of (inside container files) cutoff wanted force) files store.after)
  -- each refusal has its cause
  pub cause : (files : List File) → store.before ≡ Some files →
      HasExpireCause (expiry_of (inside container files) cutoff wanted force) fault
  pub kind : IsOfExpire fault
  -- whatever way it ended, the changes at the front were made and no other
  pub made : (files : List File) → store.before ≡ Some files →
      StopsIn (changes_of container (expiry_of (inside container files) cutoff wanted force))
      store.before store.after
  -- a refused one changes no file
  pub refused : IsExpireRefusal fault → store.after ≡ store.before
  -- and an honest container is still honest, where the cutoff is a version
  pub honest : (files : List File) → store.before ≡ Some files → cutoff ≤ most_number →
      (source : Source) → IsHonestStore file_grammars source container files →
      LeavesHonest source container store.after
