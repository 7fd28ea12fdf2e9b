-- What mutations touch, and what stays as it was elsewhere.
use Rattle.std.specs.Prelude.{◌≡◌, ◌+◌, ◌≤◌, Bool, false, ◌||◌, List, [], ◌∷◌, length}
use Rattle.std.specs.List.{AllByRecursion}
use Rattle.fb_bytes.specs.Bytes.{Bytes}
use Rattle.fb_bytes.specs.Options.{IsIn}
use Rattle.mutations.specs.declared.mutation.Mutation.{Mutation}
use Rattle.mutations.specs.Effects.{touches_key}
use Rattle.versioned_kv.specs.Chains.{Chain, rows_of}

-- some mutation names the key
abbrev pub touched : List Mutation → Bytes → Bool
touched [] key = false
touched (m ∷ ms) key = touches_key m key || touched ms key

-- where the test fails, the rows are as they were
abbrev pub RowsStay : (Bytes → Bool) → List Chain → List Chain → Type 0
RowsStay test old new = (key : Bytes) → test key ≡ false → rows_of new key ≡ rows_of old key

-- At the keys that pass the test one row was written at most, and nothing elsewhere.
pub record WritesAt (test : Bytes → Bool) (old new : List Chain) : Type 0 where
  pub rows : RowsStay test old new
  pub keys : AllByRecursion (λ chain. test chain.key ≡ false → IsIn chain old) new
  pub one : (key : Bytes) → length (rows_of new key) ≤ length (rows_of old key) + 1
