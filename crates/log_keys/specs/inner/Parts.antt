-- The parts of a batch, which are pieces of its bytes under keys.
use Rattle.std.specs.Prelude.{ℕ, ◌+◌, List, [], ◌∷◌}
use Rattle.std.specs.List.{flat_map}
use Rattle.fb_bytes.specs.Bytes.{Bytes}
pub use Rattle.log_keys.specs.declared.row.Row.{Row}

-- pieces under a job and a version, as parts that are numbered on from a number
abbrev pub rows_from : ℕ → ℕ → ℕ → List Bytes → List Row
rows_from job version part [] = []
rows_from job version part (piece ∷ pieces) =
    record {
      key = record { job = job; version = version; part = part };
      piece = piece;
    } ∷ rows_from job version (part + 1) pieces

-- all pieces, one after the other
abbrev pub spelled : List Bytes → Bytes
spelled pieces = flat_map (λ piece. piece) pieces
