-- Batches of mutations by version, and what they leave at a key.
use Rattle.std.specs.Prelude.{ℕ, ◌<◌, Bool, ◌&&◌, List, [], ◌∷◌, Option, if◌then◌else◌, nat_lt}
use Rattle.std.specs.Prelude.{nat_le}
use Rattle.std.specs.List.{AllByRecursion}
use Rattle.fb_bytes.specs.Bytes.{Bytes}
use Rattle.mutations.specs.declared.batch.Batch.{Batch}
use Rattle.mutations.specs.Effects.{effects}

-- low <= version < high
abbrev pub is_within : ℕ → ℕ → ℕ → Bool
is_within low high version = nat_le low version && nat_lt version high

-- what the batches with low <= version < high leave at a key, by the value before them
abbrev pub replayed : ℕ → List Batch → ℕ → ℕ → Bytes → Option Bytes → Option Bytes
replayed limit [] low high key old = old
replayed limit (x ∷ xs) low high key old =
    replayed limit xs low high key
    (if is_within low high x.version then effects limit x.muts key old else old)

-- the versions of batches rise strictly
abbrev pub AreRising : List Batch → Type 0
AreRising [] = Unit {0}
AreRising (x ∷ xs) = AllByRecursion (λ y. x.version < y.version) xs × AreRising xs
