-- The lines of a description: the container, its snapshots, how far its logs go, what it can be
-- restored to, and its properties.
use Rattle.std.specs.Prelude.{ℕ, List, [], ◌∷◌, ◌++◌, Option, Some, None, codes, decimal}
use Rattle.std.specs.List.{flat_map}
use Rattle.fb_bytes.specs.Bytes.{Bytes}
use Rattle.container_view.specs.declared.Snapshot.{Snapshot}
use Rattle.container_view.specs.declared.Description.{Description}
use Rattle.report_text.specs.declared.report.Described.{Described}
use Rattle.report_text.specs.Lines.{line}

-- a number that may be absent
abbrev pub number_or_none : Option ℕ → Bytes
number_or_none None = codes "none"
number_or_none (Some n) = decimal n

-- its begin, its end, its bytes, and the greatest version that it gives
abbrev pub snapshot_line : Snapshot → Bytes
snapshot_line snapshot =
    line (codes "snapshot" ∷ decimal snapshot.begin ∷ decimal snapshot.end
    ∷ decimal snapshot.bytes ∷ number_or_none snapshot.greatest ∷ [])

-- a word, and a number that may be absent
abbrev pub number_line : Bytes → Option ℕ → Bytes
number_line word number = line (word ∷ number_or_none number ∷ [])

-- the lines of the logs
abbrev pub log_lines : Description → Bytes
log_lines d =
    number_line (codes "MinLogBeginVersion") d.log_begin
    ++ number_line (codes "ContiguousLogEndVersion") d.log_contiguous
    ++ number_line (codes "MaxLogEndVersion") d.log_end

-- the lines of the versions that can be restored
abbrev pub restorable_lines : Description → Bytes
restorable_lines d =
    number_line (codes "MinRestorableVersion") d.min
    ++ number_line (codes "MaxRestorableVersion") d.max

-- the lines of the properties
abbrev pub property_lines : Description → Bytes
property_lines d =
    number_line (codes "UnreliableEndVersion") d.unreliable
    ++ number_line (codes "ExpiredEndVersion") d.expired

-- all numbers, but those of the snapshots
abbrev pub number_lines : Description → Bytes
number_lines d = log_lines d ++ restorable_lines d ++ property_lines d

abbrev pub container_line : Bytes → Bytes
container_line name = line (codes "container" ∷ name ∷ [])

abbrev pub described_text : Described → Bytes
described_text told =
    container_line told.container ++ flat_map snapshot_line told.description.snapshots
    ++ number_lines told.description
