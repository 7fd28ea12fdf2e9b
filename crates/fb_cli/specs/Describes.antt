-- What a description of a container comes to.
use Rattle.std.specs.Prelude.{◌≡◌, List, Option, Some, None, Ok, IsSome, IfSome, ◌↔◌}
use Rattle.fb_bytes.specs.Bytes.{Bytes}
use Rattle.fb_outside.specs.declared.File.{File}
use Rattle.container_view.specs.Description.{description_of}
use Rattle.container_view.specs.Files.{inside}
use Rattle.report_text.specs.declared.Report.{Report}
use Rattle.report_text.specs.declared.Report.TheVariants as reports
use Rattle.fb_cli.specs.Outside.{Store}
use Rattle.fb_cli.specs.Restores.{HasCause}
use Rattle.fb_cli.specs.declared.fault.Fault.{Fault}
use Rattle.fb_cli.specs.declared.fault.Fault.TheVariants.{VaultFault, Damaged, NoMemory}
use Rattle.fb_cli.specs.declared.fault.Fault.TheVariants.{NoContainer}

-- the report tells what the names of a container's files and its properties say
abbrev pub TellsDescription : Bytes → List File → Report → Type 0
TellsDescription container files (reports.Described told) =
    (told.container ≡ container)
    × (description_of (inside container files) ≡ Ok told.description)
TellsDescription container files report = ⊥

-- the refusals that a description may come to
abbrev pub IsOfDescription : Option Fault → Type 0
IsOfDescription None = Unit {0}
IsOfDescription (Some VaultFault) = Unit {0}
IsOfDescription (Some (Damaged name fault)) = Unit {0}
IsOfDescription (Some NoMemory) = Unit {0}
IsOfDescription (Some NoContainer) = Unit {0}
IsOfDescription fault = ⊥

-- A description of a container of a file store.
pub record Describes
    (container : Bytes)
    (store : Store)
    (report : Option Report)
    (fault : Option Fault) : Type 0 where
  -- a report comes exactly without a refusal, and tells what the container has
  pub reported : IsSome report ↔ (fault ≡ None)
  pub told : (files : List File) → store.before ≡ Some files →
      IfSome report (TellsDescription container files)
  -- each refusal has its cause
  pub cause : (files : List File) → store.before ≡ Some files →
      HasCause (description_of (inside container files)) fault
  pub kind : IsOfDescription fault
  -- no file is changed
  pub same : store.after ≡ store.before
