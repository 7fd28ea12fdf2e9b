-- Which keys the versions touched: where a store looks when versions go.
use Rattle.std.specs.Prelude.{◌≡◌, ℕ, ◌<◌, ◌≤◌, true, List, [], ◌∷◌, ◌++◌, ◌⊎◌, is_some}
use Rattle.std.specs.List.{AllByRecursion}
use Rattle.fb_bytes.specs.Bytes.{Bytes}
use Rattle.fb_bytes.specs.Options.{IsIn}
use Rattle.versioned_kv.specs.Chains.{Row, Chain, rows_of}
use Rattle.versioned_kv.specs.Forgotten.{forgotten}
use Rattle.versioned_kv.specs.inner.Sound.{IsSound}
pub use Rattle.versioned_kv.specs.declared.queue.Touch.{Touch}

-- a version touched a key
abbrev pub touch : ℕ → Bytes → Touch
touch version key = record { version = version; key = key }

abbrev pub IsNoted : List Touch → ℕ → Bytes → Type 0
IsNoted queue version key = IsIn (touch version key) queue

-- where some row is of the version, the queue has its key
abbrev pub AreRowsNoted : ℕ → List Touch → Bytes → List Row → Type 0
AreRowsNoted version queue key rows =
    AllByRecursion (λ row. row.version ≡ version → IsNoted queue version key) rows

abbrev pub AreNoted : ℕ → List Chain → List Touch → Type 0
AreNoted version chains queue =
    AllByRecursion (λ chain. AreRowsNoted version queue chain.key chain.rows) chains

-- versions don't fall
abbrev pub AreInOrder : List Touch → Type 0
AreInOrder [] = Unit {0}
AreInOrder (first ∷ queue) =
    AllByRecursion (λ later. first.version ≤ later.version) queue × AreInOrder queue

abbrev pub AreTouchesUpto : ℕ → List Touch → Type 0
AreTouchesUpto version queue = AllByRecursion (λ touch. touch.version ≤ version) queue

abbrev pub AreTouchesBelow : ℕ → List Touch → Type 0
AreTouchesBelow version queue = AllByRecursion (λ touch. touch.version < version) queue

abbrev pub AreTouchesPast : ℕ → List Touch → Type 0
AreTouchesPast version queue = AllByRecursion (λ touch. version < touch.version) queue

-- Keys that the version touched were added.
pub record Notes (version : ℕ) (old new : List Touch) : Type 0 where
  pub more : List Touch
  pub added : new ≡ old ++ more
  pub each : AllByRecursion (λ touch. touch.version ≡ version) more

-- Keys that versions up to the oldest one touched were taken away.
pub record Falls (oldest : ℕ) (old new : List Touch) : Type 0 where
  pub gone : List Touch
  pub split : old ≡ gone ++ new
  pub each : AreTouchesUpto oldest gone

-- each row is in the queue, or it is what the key had at the oldest version
abbrev pub AreRowsKept : List Touch → ℕ → Bytes → List Row → Type 0
AreRowsKept queue oldest key [] = Unit {0}
AreRowsKept queue oldest key (row ∷ rows) =
    (IsNoted queue row.version key ⊎ ((row.version ≤ oldest) × (is_some row.value ≡ true)))
    × AllByRecursion (λ later. IsNoted queue later.version key) rows

-- some version up to the oldest one touched the key
abbrev pub MayFall : ℕ → List Touch → Bytes → Type 0
MayFall oldest queue key = (version : ℕ) × (version ≤ oldest) × IsNoted queue version key

-- the queue has each key of which rows fall
abbrev pub AreDue : ℕ → List Chain → List Touch → Type 0
AreDue oldest chains queue =
    AllByRecursion
    (λ chain. (forgotten oldest chain.rows ≡ chain.rows) ⊎ MayFall oldest queue chain.key) chains

-- What always holds of a store's queue.
pub record IsQueued (versions : List ℕ) (oldest : ℕ) (chains : List Chain)
    (queue : List Touch) : Type 0 where
  pub in_order : AreInOrder queue
  pub of : AllByRecursion (λ touch. IsIn touch.version versions) queue
  pub kept : (key : Bytes) → AreRowsKept queue oldest key (rows_of chains key)

-- What always holds of all that a store keeps.
pub record IsWhole (versions : List ℕ) (oldest : ℕ) (chains : List Chain)
    (queue : List Touch) : Type 0 where
  pub sound : IsSound versions chains
  pub queued : IsQueued versions oldest chains queue
