-- What is told of a container without its files' contents: its snapshots, how far its logs go, what
-- it advertises, and its properties.
use Rattle.std.specs.Prelude.{ℕ, List, [], ◌∷◌, map, Option, Some, None, Result, Ok}
use Rattle.std.specs.Prelude.{option_map, unwrap_or}
use Rattle.fb_bytes.specs.Bytes.{Bytes}
use Rattle.fb_outside.specs.declared.File.{File}
pub use Rattle.container_view.specs.declared.describing.Snapshot.{Snapshot}
pub use Rattle.container_view.specs.declared.describing.Description.{Description}
use Rattle.container_view.specs.declared.view.ViewFault.{ViewFault}
use Rattle.container_view.specs.declared.view.ViewFault.TheVariants as faults
use Rattle.container_view.specs.Bounds.{Bounds, reached, given, wider, advertised_bounds}
use Rattle.container_view.specs.Folder.{LogFile, Folder}
use Rattle.container_view.specs.Names.{Sealed, sealed_named, folder_named}
use Rattle.container_view.specs.Sets.{with_properties}

abbrev pub greatest_of : Option Bounds → Option ℕ
greatest_of bounds = option_map (λ (b : Bounds). b.greatest) bounds

abbrev pub least_of : Option Bounds → Option ℕ
least_of bounds = option_map (λ (b : Bounds). b.least) bounds

-- a snapshot, by its manifest, with the greatest version that the manifest gives
abbrev pub snapshot_of : Folder → Sealed → Snapshot
snapshot_of folder m =
    record {
      begin = m.file.begin;
      end = m.file.end;
      bytes = m.bytes;
      greatest = greatest_of (given folder m.file);
    }

-- the versions that a log file has, from its begin on and before its end
abbrev pub span_of : LogFile → Option Bounds
span_of file = Some (record { least = file.begin; greatest = file.end })

-- the least begin and the greatest end of the log files
abbrev pub log_span : List LogFile → Option Bounds
log_span [] = None
log_span (file ∷ files) = wider (span_of file) (log_span files)

-- What is told of a folder with these names. Logs go on without a gap from their least begin to the
-- contiguous end.
abbrev pub described_by : Folder → List Bytes → Option ℕ → Option ℕ → Description
described_by folder names unreliable expired =
    record {
      snapshots = map (snapshot_of folder) (sealed_named names);
      log_begin = least_of (log_span folder.logs);
      log_contiguous = option_map (reached folder.logs) (least_of (log_span folder.logs));
      log_end = greatest_of (log_span folder.logs);
      min = least_of (advertised_bounds folder);
      max = greatest_of (advertised_bounds folder);
      unreliable = unreliable;
      expired = expired;
    }

-- what is told of a container with these names and the numbers of its properties
abbrev pub described : List Bytes → Option ℕ → Option ℕ → Description
described names unreliable expired =
    described_by (folder_named names (unwrap_or unreliable 0)) names unreliable expired

-- the same, which reading never fails at
abbrev pub told_then : List Bytes → Option ℕ → Option ℕ → Result Description ViewFault
told_then names unreliable expired = Ok (described names unreliable expired)

-- What is told of a container with these files, or the first fault: that it has no file, a
-- property, unreliable first.
abbrev pub description_of : List File → Result Description ViewFault
description_of files = with_properties files told_then

-- the faults that describing a container may meet
abbrev pub IsOfDescribing : ViewFault → Type 0
IsOfDescribing faults.NoContainer = Unit {0}
IsOfDescribing (faults.Damaged name fault) = Unit {0}
IsOfDescribing faults.VaultFault = Unit {0}
IsOfDescribing faults.NoMemory = Unit {0}
IsOfDescribing fault = ⊥
