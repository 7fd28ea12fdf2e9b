-- Which lists of ranges aren't taken, and for which cause.
use Rattle.std.specs.Prelude.{ℕ, nat_lt, List, [], length, Option, Some, None, if◌then◌else◌}
use Rattle.fb_bytes.specs.declared.range_fault.RangeFault.{RangeFault}
use Rattle.fb_bytes.specs.declared.range_fault.RangeFault.TheVariants.{Empty, TooMany, Backwards}
use Rattle.fb_bytes.specs.declared.range_fault.RangeFault.TheVariants.{PastUser}
use Rattle.fb_bytes.specs.Keys.{KeyRange, is_backwards, is_past_user}
use Rattle.fb_bytes.specs.Options.{first_place}

-- the fault at that place, where there is one, else what the next test finds
abbrev pub fault_at : (ℕ → RangeFault) → Option ℕ → Option RangeFault → Option RangeFault
fault_at fault (Some place) next = Some (fault place)
fault_at fault None next = next

-- the first cause, in the order of the tests
abbrev pub range_fault : List KeyRange → Option RangeFault
range_fault [] = Some Empty
range_fault ranges =
    if nat_lt 1000 (length ranges) then Some (TooMany (length ranges))
    else fault_at Backwards (first_place is_backwards ranges)
    (fault_at PastUser (first_place is_past_user ranges) None)
