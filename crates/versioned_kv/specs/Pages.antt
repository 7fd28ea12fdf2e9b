-- The first pairs of a range.
use Rattle.std.specs.Prelude.{◌≡◌, ℕ, ◌≤◌, Bool, true, ◌&&◌, List, length, Option}
use Rattle.std.specs.Prelude.{Some, None, is_some, if◌then◌else◌}
use Rattle.fb_bytes.specs.Bytes.{Bytes, is_below}
use Rattle.fb_bytes.specs.declared.KeyRange.{KeyRange}
use Rattle.fb_bytes.specs.Keys.{holds}
use Rattle.fb_bytes.specs.declared.Pair.{Pair}
use Rattle.fb_bytes.specs.Pairs.{value_of}
pub use Rattle.versioned_kv.specs.declared.page.Page.{Page}

-- the key comes before the one that is left, where one is
abbrev pub is_before : Option Bytes → Bytes → Bool
is_before None key = true
is_before (Some next) key = is_below key next

-- the key that is left is the first of the range behind the pairs of a full page
abbrev pub IsNext : (Bytes → Option Bytes) → KeyRange → ℕ → List Pair → Option Bytes → Type 0
IsNext state range limit pairs None = Unit {0}
IsNext state range limit pairs (Some next) =
    (holds range next ≡ true) × (is_some (state next) ≡ true) × (length pairs ≡ limit)

-- The page has the pairs of the range before the key that is left: at each of their keys what the
-- state has, and at most as many as the limit.
pub record IsPage (state : Bytes → Option Bytes) (range : KeyRange) (limit : ℕ)
    (page : Page) : Type 0 where
  pub told : (key : Bytes)
      → value_of page.pairs key
      ≡ (if holds range key && is_before page.next key then state key else None)
  pub few : length page.pairs ≤ limit
  pub next : IsNext state range limit page.pairs page.next
