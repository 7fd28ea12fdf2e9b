-- Single choices among names.
use Rattle.std.specs.Prelude.{ℕ, ◌-◌, max, ◌==◌, ◌&&◌, ◌||◌}
use Rattle.std.specs.Prelude.{Option, Some, None, option_map, if◌then◌else◌, nat_le, nat_lt}
use Rattle.fb_bytes.specs.Bytes.{Bytes}
use Rattle.container_view.specs.Folder.{ManifestFile}
use Rattle.container_view.specs.Chain.{comes_first}
use Rattle.container_view.specs.Bounds.{Bounds, is_given}
use Rattle.container_view.specs.Names.{Sealed}
use Rattle.container_view.specs.Description.{Snapshot, greatest_of}

-- the first of a name with an end and another one
abbrev pub first_of : Bytes → ℕ → Option (Bytes × ℕ) → Option (Bytes × ℕ)
first_of name end None = Some (name, end)
first_of name end (Some other) =
    if comes_first end name other.1 other.0 then Some (name, end) else Some other

-- the manifest's name with its end
abbrev pub seen_manifest : Option ManifestFile → Option (Bytes × ℕ)
seen_manifest found = option_map (λ m. (m.name, m.end)) found

-- the best manifest that gives the version, of the best so far and one more
abbrev pub better_manifest :
    (ℕ → ℕ) → ℕ → ℕ → Option (Bytes × ℕ) → ManifestFile → Option (Bytes × ℕ)
better_manifest reach unreliable version best m =
    if is_given reach unreliable m.begin m.end version then first_of m.name m.end best else best

-- the bounds of the versions that a manifest gives, by the ends that are reached
abbrev pub given_named : (ℕ → ℕ) → ℕ → ManifestFile → Option Bounds
given_named reach unreliable m =
    if nat_le unreliable m.begin && (nat_lt m.end (reach m.begin) || m.begin == m.end)
    then Some (record { least = m.end; greatest = max m.end (reach m.begin - 1) }) else None

-- a snapshot, by its manifest and by the ends that are reached
abbrev pub snapshot_with : (ℕ → ℕ) → ℕ → Sealed → Snapshot
snapshot_with reach unreliable m =
    record {
      begin = m.file.begin;
      end = m.file.end;
      bytes = m.bytes;
      greatest = greatest_of (given_named reach unreliable m.file);
    }
