-- What a restore comes to.
use Rattle.std.specs.Prelude.{◌≡◌, ℕ, true, List, Option, Some, None, Result, Ok, Err, ◌⊎◌}
use Rattle.std.specs.Prelude.{IsSome, IfSome, ◌↔◌}
use Rattle.fb_bytes.specs.Bytes.{Bytes}
use Rattle.fb_bytes.specs.Pairs.{AreRising, value_of}
use Rattle.fb_outside.specs.declared.File.{File}
use Rattle.container_view.specs.Advertised.{is_advertised}
use Rattle.container_view.specs.Contents.{file_grammars}
use Rattle.container_view.specs.Files.{inside, folder_in}
use Rattle.container_view.specs.Folder.{Folder}
use Rattle.container_view.specs.Honest.{IsFaithfulStore}
use Rattle.container_view.specs.Law.{Source, true_value}
use Rattle.container_view.specs.Meaning.{means}
use Rattle.container_view.specs.declared.ViewFault.{ViewFault}
use Rattle.container_view.specs.declared.ViewFault.TheVariants as views
use Rattle.restore_read.specs.Reading.{loaded_of}
use Rattle.report_text.specs.declared.Report.{Report}
use Rattle.report_text.specs.declared.Report.TheVariants as reports
use Rattle.fb_cli.specs.Outside.{Store}
use Rattle.fb_cli.specs.declared.fault.Fault.{Fault}
use Rattle.fb_cli.specs.declared.fault.Fault.TheVariants.{VaultFault, NotRestorable, Damaged}
use Rattle.fb_cli.specs.declared.fault.Fault.TheVariants.{NoMemory, NoContainer, Missing}

-- the report tells the version, and in the order of their keys the pairs of a state
abbrev pub TellsPairs : ℕ → (Bytes → Option Bytes) → Report → Type 0
TellsPairs version state (reports.Restored told) =
    (told.version ≡ version)
    × AreRising told.pairs
    × ((key : Bytes) → value_of told.pairs key ≡ state key)
TellsPairs version state report = ⊥

-- The report tells what the container means at the version, by the bytes of its files.
pub record TellsMeaning
    (container : Bytes)
    (told : List File)
    (version : ℕ)
    (report : Report) : Type 0 where
  pub folder : Folder
  pub decoded : folder_in file_grammars container told ≡ Some folder
  pub meaning : Bytes → Option Bytes
  pub defined : means folder version ≡ Some meaning
  pub pairs : TellsPairs version meaning report

-- the refusal by what is wrong with a container
abbrev pub refusal_of : ViewFault → Fault
refusal_of views.NoContainer = NoContainer
refusal_of (views.NotRestorable low high) = NotRestorable low high
refusal_of (views.Damaged name fault) = Damaged name fault
refusal_of (views.Missing name) = Missing name
refusal_of views.VaultFault = VaultFault
refusal_of views.NoMemory = NoMemory

-- The first fault that reading meets is the refusal. A fault of the store and want of memory may
-- come in its place, and in that of a report.
abbrev pub HasCause : {A : Type 0} → Result A ViewFault → Option Fault → Type 0
HasCause (Ok read) fault =
    (fault ≡ None) ⊎ ((fault ≡ Some VaultFault) ⊎ (fault ≡ Some NoMemory))
HasCause (Err found) fault =
    (fault ≡ Some (refusal_of found)) ⊎ ((fault ≡ Some VaultFault) ⊎ (fault ≡ Some NoMemory))

-- the refusals that a restore may come to
abbrev pub IsOfRestore : Option Fault → Type 0
IsOfRestore None = Unit {0}
IsOfRestore (Some VaultFault) = Unit {0}
IsOfRestore (Some (NotRestorable low high)) = Unit {0}
IsOfRestore (Some (Damaged name fault)) = Unit {0}
IsOfRestore (Some NoMemory) = Unit {0}
IsOfRestore (Some NoContainer) = Unit {0}
IsOfRestore (Some (Missing name)) = Unit {0}
IsOfRestore fault = ⊥

-- there is a report, and it tells the pairs of a state
abbrev pub Reports : ℕ → (Bytes → Option Bytes) → Option Report → Type 0
Reports version state None = ⊥
Reports version state (Some report) = TellsPairs version state report

-- A restore of a version from a container of a file store.
pub record Restores
    (container : Bytes)
    (version : ℕ)
    (store : Store)
    (report : Option Report)
    (fault : Option Fault) : Type 0 where
  -- a report comes exactly without a refusal, and tells exactly what the container means at the
  -- version
  pub reported : IsSome report ↔ (fault ≡ None)
  pub meaning : (told : List File) → store.before ≡ Some told →
      IfSome report (TellsMeaning container told version)
  -- each refusal has its cause
  pub cause : (told : List File) → store.before ≡ Some told →
      HasCause (loaded_of (inside container told) version) fault
  pub kind : IsOfRestore fault
  -- an advertised version of a faithful container has its source's pairs
  pub faithful : (told : List File) → store.before ≡ Some told →
      (source : Source) (faithful : IsFaithfulStore file_grammars source container told) →
      is_advertised faithful.folder version ≡ true →
      Reports version (true_value source version) report
      ⊎ ((fault ≡ Some VaultFault) ⊎ (fault ≡ Some NoMemory))
  -- no file is changed
  pub same : store.after ≡ store.before
