-- The number that a property file holds.
use Rattle.std.specs.Prelude.{◌≡◌, ℕ, ◌≤◌, ◌↔◌, ◌&&◌, length, decimal, Option, Some, None, nat_le}
use Rattle.std.specs.Prelude.{◌==◌, if◌then◌else◌}
use Rattle.fb_bytes.specs.Bytes.{Bytes}
use Rattle.fb_bytes.specs.Limits.{most_number}
use Rattle.fb_bytes.specs.Options.{◌>>=◌}
use Rattle.file_names.specs.Reading.{number_at}

-- the number in decimal and nothing else, at most the greatest
unfoldable pub property_of : Bytes → Option ℕ
property_of bytes =
    number_at bytes >>= λ front.
    if length front.1 == 0 && nat_le front.0 most_number then Some front.0 else None

-- the number that a property has, if its file is there; none where the file isn't in its grammar
abbrev pub property_in : Option Bytes → Option (Option ℕ)
property_in None = Some None
property_in (Some bytes) = property_of bytes >>= λ n. Some (Some n)

-- the bytes hold a number exactly where they are its decimal text, and it is at most the
-- greatest
abbrev pub PropertyLaw : Type 0
PropertyLaw =
    (bytes : Bytes) (n : ℕ)
    → (property_of bytes ≡ Some n) ↔ ((bytes ≡ decimal n) × (n ≤ most_number))
