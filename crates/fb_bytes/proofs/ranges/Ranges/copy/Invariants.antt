use Rattle.std.proofs.Common.{◌≡◌, take}
use Rattle.fb_bytes.proofs.ranges.Ranges.copy.Given as goal

abbrev pub invariant-loop-range : goal.invariant-loop-range
invariant-loop-range l = l.ranges.items ≡ take l.range-index l.range-items
