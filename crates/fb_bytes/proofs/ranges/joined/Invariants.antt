use Rattle.fb_bytes.proofs.Unions.{Joined}
use Rattle.fb_bytes.proofs.ranges.joined.Given as goal

abbrev pub invariant-loop-range : goal.invariant-loop-range
invariant-loop-range l = Joined l.list l.range-index l.ranges.items
