-- Ranges in order, and the last that was seen.
use Rattle.std.specs.Prelude.{◌≡◌, Bool, false, List, [], ◌∷◌}
use Rattle.std.specs.Prelude.{Option, Some, None, if◌then◌else◌}
use Rattle.std.specs.List.{AllByRecursion}
use Rattle.fb_bytes.specs.Bytes.{is_below}
use Rattle.fb_bytes.specs.declared.KeyRange.{KeyRange}
use Rattle.fb_bytes.specs.Keys.{overlaps, is_backwards}
use Rattle.restore_apply.specs.declared.overlaps.At.{At}

-- each begins no earlier than those before it
abbrev pub AreOrdered : List At → Type 0
AreOrdered [] = Unit {0}
AreOrdered (x ∷ xs) =
    AllByRecursion (λ y. is_below y.range.begin x.range.begin ≡ false) xs × AreOrdered xs

-- the range overlaps that one, if there is one
abbrev pub overlaps_last : KeyRange → Option KeyRange → Bool
overlaps_last range None = false
overlaps_last range (Some last) = overlaps range last

-- the range, where it has keys, and else the one before
abbrev pub further : KeyRange → Option KeyRange → Option KeyRange
further range last = if is_backwards range then last else Some range
