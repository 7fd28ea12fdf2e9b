-- What a list of a store's containers comes to.
use Rattle.std.specs.Prelude.{◌≡◌, ◌&&◌, List, Option, Some, None, IsSome, IfSome, ◌↔◌}
use Rattle.fb_bytes.specs.Bytes.{Bytes}
use Rattle.fb_outside.specs.declared.File.{File}
use Rattle.container_view.specs.Containers.{has_file, AreRising}
use Rattle.container_view.specs.Names.{is_named}
use Rattle.workload_text.specs.Commands.{is_container_name}
use Rattle.report_text.specs.declared.Report.{Report}
use Rattle.report_text.specs.declared.Report.TheVariants as reports
use Rattle.fb_cli.specs.Outside.{Store}
use Rattle.fb_cli.specs.declared.fault.Fault.{Fault}
use Rattle.fb_cli.specs.declared.fault.Fault.TheVariants.{VaultFault, NoMemory}

-- the report lists names in byte order, each once
abbrev pub ListsInOrder : Report → Type 0
ListsInOrder (reports.Listed names) = AreRising names
ListsInOrder report = ⊥

-- the names are exactly those that a container may have and under which a file stands
abbrev pub AreContainers : List File → List Bytes → Type 0
AreContainers files names =
    (name : Bytes) → is_named names name ≡ (is_container_name name && has_file name files)

-- the report lists these names
abbrev pub ListsContainers : List File → Report → Type 0
ListsContainers files (reports.Listed names) = AreContainers files names
ListsContainers files report = ⊥

-- the refusals that a list may come to
abbrev pub IsOfList : Option Fault → Type 0
IsOfList None = Unit {0}
IsOfList (Some VaultFault) = Unit {0}
IsOfList (Some NoMemory) = Unit {0}
IsOfList fault = ⊥

-- A list of the containers of a file store.
pub record Lists (store : Store) (report : Option Report) (fault : Option Fault) : Type 0 where
  -- a report comes exactly without a refusal, and lists the containers in byte order
  pub reported : IsSome report ↔ (fault ≡ None)
  pub ordered : IfSome report ListsInOrder
  pub told : (files : List File) → store.before ≡ Some files →
      IfSome report (ListsContainers files)
  pub kind : IsOfList fault
  -- no file is changed
  pub same : store.after ≡ store.before
