-- What goes from a source to a buffer, and from a buffer to a sink.
use Rattle.std.specs.Prelude.{◌≡◌, ℕ, ◌≤◌, [], ◌++◌, length, take}
use Rattle.fb_bytes.specs.Bytes.{Bytes}

-- the first n of these bytes stand at the buffer's front, and no byte was moved only where none was
-- left
pub record Moves (n : ℕ) (bytes buf : Bytes) : Type 0 where
  pub enough : n ≤ length bytes
  pub front : take n buf ≡ take n bytes
  pub none : n ≡ 0 → bytes ≡ []

-- the bytes begin so
abbrev pub IsFrontOf : Bytes → Bytes → Type 0
IsFrontOf bytes front = (rest : Bytes) × (bytes ≡ front ++ rest)

-- the bytes end so
abbrev pub IsRestOf : Bytes → Bytes → Type 0
IsRestOf bytes rest = (front : Bytes) × (bytes ≡ front ++ rest)
