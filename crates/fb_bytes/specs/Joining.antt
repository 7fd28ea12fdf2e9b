-- Ranges in order, with one more.
use Rattle.std.specs.Prelude.{◌≡◌, ◌+◌, ◌≤◌, false, ◌||◌, List, [], ◌∷◌, length, if◌then◌else◌}
use Rattle.std.specs.List.{AllByRecursion}
use Rattle.fb_bytes.specs.Bytes.{Bytes, is_below}
use Rattle.fb_bytes.specs.Keys.{KeyRange, holds, in_ranges, is_past_user, AreSeparate}

-- from the lower begin to the greater end
abbrev pub hull : KeyRange → KeyRange → KeyRange
hull a b = record {
  begin = if is_below b.begin a.begin then b.begin else a.begin;
  end = if is_below a.end b.end then b.end else a.end;
}

-- one range more: joined with each range that it overlaps or touches, and else put where it belongs
abbrev pub with_range : KeyRange → List KeyRange → List KeyRange
with_range new [] = new ∷ []
with_range new (next ∷ ranges) =
    if is_below next.end new.begin then next ∷ with_range new ranges
    else if is_below new.end next.begin then new ∷ with_range next ranges
    else with_range (hull new next) ranges

-- all of them, joined: separate ranges that have the same keys
abbrev pub joined : List KeyRange → List KeyRange
joined [] = []
joined (range ∷ ranges) = with_range range (joined ranges)

-- these are user ranges
abbrev pub AreUser : List KeyRange → Type 0
AreUser = AllByRecursion (λ range. is_past_user range ≡ false)

-- the joined ranges have the keys of these and of one range more, in order again
pub record Joins (range : KeyRange) (ranges joined : List KeyRange) : Type 0 where
  pub union : (key : Bytes) → in_ranges joined key ≡ (holds range key || in_ranges ranges key)
  pub separate : AreSeparate joined
  pub user : is_past_user range ≡ false → AreUser ranges → AreUser joined
  pub few : length joined ≤ length ranges + 1
