-- The sizes of blocks that files may have.
use Rattle.std.specs.Prelude.{ℕ, Bool, ◌||◌, ◌==◌}

-- one of the four sizes
abbrev pub is_block : ℕ → Bool
is_block size = size == 256 || size == 4096 || size == 262144 || size == 1048576
