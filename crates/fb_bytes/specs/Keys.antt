-- Keys and ranges of keys.
use Rattle.std.specs.Prelude.{◌≡◌, ◌≤◌, Bool, true, false, not, ◌&&◌, ◌||◌, List, [], ◌∷◌, length}
use Rattle.std.specs.Prelude.{Option, None, if◌then◌else◌}
use Rattle.std.specs.List.{AllByRecursion}
pub use Rattle.fb_bytes.specs.declared.key_range.KeyRange.{KeyRange}
use Rattle.fb_bytes.specs.Bytes.{Bytes, is_below}

-- the range has the key: from its begin on and before its end
abbrev pub holds : KeyRange → Bytes → Bool
holds range key = not (is_below key range.begin) && is_below key range.end

-- some key is in both ranges, where each has one
abbrev pub overlaps : KeyRange → KeyRange → Bool
overlaps a b = is_below a.begin b.end && is_below b.begin a.end

-- some range holds the key
abbrev pub in_ranges : List KeyRange → Bytes → Bool
in_ranges [] key = false
in_ranges (range ∷ ranges) key = holds range key || in_ranges ranges key

-- the end of the user space: every user key is below it
abbrev pub user_end : Bytes
user_end = 255 ∷ []

-- the begin isn't below the end, so the range holds no key
abbrev pub is_backwards : KeyRange → Bool
is_backwards range = not (is_below range.begin range.end)

-- the end is past the end of the user space
abbrev pub is_past_user : KeyRange → Bool
is_past_user range = is_below user_end range.end

-- the next range, if there is one, begins past the key
abbrev pub BeginPast : Bytes → List KeyRange → Type 0
BeginPast key [] = Unit {0}
BeginPast key (range ∷ ranges) = is_below key range.begin ≡ true

-- in order, none empty, and no two overlap or touch
abbrev pub AreSeparate : List KeyRange → Type 0
AreSeparate [] = Unit {0}
AreSeparate (range ∷ ranges) =
    (is_backwards range ≡ false) × BeginPast range.end ranges × AreSeparate ranges

-- what a job's ranges keep
pub record AreRanges (ranges : List KeyRange) : Type 0 where
  pub separate : AreSeparate ranges
  pub user : AllByRecursion (λ range. is_past_user range ≡ false) ranges
  pub few : length ranges ≤ 1000

-- the part of a state that the ranges cover
abbrev pub cut : (Bytes → Option Bytes) → List KeyRange → Bytes → Option Bytes
cut state ranges key = if in_ranges ranges key then state key else None

-- two lists of separate ranges that have the same keys are the same list
abbrev pub KeysTellRanges : Type 0
KeysTellRanges =
    (a b : List KeyRange) → AreSeparate a → AreSeparate b
    → ((key : Bytes) → in_ranges a key ≡ in_ranges b key) → a ≡ b
