-- The four profiles: a size of blocks, and what fits its blocks.
use Rattle.std.specs.Prelude.{ℕ, ◌+◌, ◌*◌, ◌^◌, ◌<◌, ◌≤◌, List, [], ◌∷◌, Option, Some, None, ◌==◌}
use Rattle.std.specs.Prelude.{if◌then◌else◌}
use Rattle.std.specs.List.{AllByRecursion}
pub use Rattle.fb_bytes.specs.Blocks.{is_block}

-- a row of the table: the greatest length of a key, of a value, and of a part of a batch
pub record Row : Type 0 where
  pub block : ℕ
  pub key : ℕ
  pub value : ℕ
  pub part : ℕ

abbrev pub rows : List Row
rows =
    record { block = 256; key = 24; value = 64; part = 64 }
    ∷ record { block = 4096; key = 256; value = 1024; part = 1000 }
    ∷ record { block = 262144; key = 10000; value = 100000; part = 10000 }
    ∷ record { block = 1048576; key = 10000; value = 100000; part = 10000 }
    ∷ []

abbrev pub row_among : List Row → ℕ → Option Row
row_among [] block = None
row_among (row ∷ others) block = if row.block == block then Some row else row_among others block

-- the row of a block, if the table has one
abbrev pub row_of : ℕ → Option Row
row_of block = row_among rows block

abbrev pub field_of : (Row → ℕ) → Option Row → ℕ
field_of field None = 0
field_of field (Some row) = field row

-- the greatest length of a key, 0 for a block that isn't in the table
abbrev pub key_limit_of : ℕ → ℕ
key_limit_of block = field_of (λ row. row.key) (row_of block)

-- the greatest length of a value or a parameter
abbrev pub limit_of : ℕ → ℕ
limit_of block = field_of (λ row. row.value) (row_of block)

-- the length of the parts that a batch is cut into
abbrev pub part_of : ℕ → ℕ
part_of block = field_of (λ row. row.part) (row_of block)

-- a block has room for what its writers put into it at once: a header, three keys and two values,
-- each with its length; and a header and a whole record of a log
pub record HasRoom (row : Row) : Type 0 where
  pub pairs : 4 + 3 * (4 + row.key) + 2 * (4 + row.value) ≤ row.block
  pub record' : 24 + row.part ≤ row.block

-- each row of the table has that room
abbrev pub RowsHaveRoom : Type 0
RowsHaveRoom = AllByRecursion HasRoom rows

-- what holds of each block of the table
pub record IsRoomy (block : ℕ) : Type 0 where
  pub pairs : 4 + 3 * (4 + key_limit_of block) + 2 * (4 + limit_of block) ≤ block
  pub record' : 24 + part_of block ≤ block
  pub part : 0 < part_of block
  pub small : block < 2 ^ 21
