-- Numbers that several subjects share.
use Rattle.std.specs.Prelude.{ℕ}

-- the greatest version, ticket and number of a text: 2 ^ 62
abbrev pub most_number : ℕ
most_number = 4611686018427387904
