-- The keys under which a log keeps its parts, and their order.
use Rattle.std.specs.Prelude.{ℕ, ◌<◌, ◌^◌, Bool, nat_lt, ◌==◌, ◌&&◌, ◌||◌, [], ◌∷◌, ◌++◌, take}
use Rattle.std.specs.Prelude.{drop}
use Rattle.std.specs.Int.{w32, w64, to_be_bytes, from_be_bytes}
use Rattle.fb_bytes.specs.Bytes.{Bytes}

-- where a part stands: its job, the version of its batch, and its number in the batch
pub record Key : Type 0 where
  pub job : ℕ
  pub version : ℕ
  pub part : ℕ

-- job and version have eight bytes, and a part's number has four
pub record Fits (key : Key) : Type 0 where
  pub job : key.job < 2 ^ 64
  pub version : key.version < 2 ^ 64
  pub part : key.part < 2 ^ 32

-- `\xff\x02/blog/`
abbrev pub prefix : Bytes
prefix = 255 ∷ 2 ∷ 47 ∷ 98 ∷ 108 ∷ 111 ∷ 103 ∷ 47 ∷ []

-- behind the prefix the job, the version and the part, the high byte of each first
unfoldable pub key_bytes : Key → Bytes
key_bytes key =
    prefix ++ to_be_bytes w64 key.job ++ to_be_bytes w64 key.version ++ to_be_bytes w32 key.part

-- the key that has these bytes
unfoldable pub key_in : Bytes → Key
key_in bytes =
    record {
      job = from_be_bytes w64 (take 8 (drop 8 bytes));
      version = from_be_bytes w64 (take 8 (drop 16 bytes));
      part = from_be_bytes w32 (drop 24 bytes);
    }

-- by job, then by version, then by part
abbrev pub is_key_below : Key → Key → Bool
is_key_below a b =
    nat_lt a.job b.job
    || ((a.job == b.job)
    && (nat_lt a.version b.version || ((a.version == b.version) && nat_lt a.part b.part)))
