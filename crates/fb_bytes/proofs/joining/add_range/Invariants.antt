use Rattle.std.proofs.Common.{◌≡◌, ◌++◌, length}
use Rattle.fb_bytes.specs.Joining.{with_range}
use Rattle.fb_bytes.proofs.joining.add_range.Given as goal

abbrev pub invariant-loop-next : goal.invariant-loop-next
invariant-loop-next l = record {
  same : with_range l.fn.range l.fn.ranges.items ≡ l.joined.items ++ with_range l.new l.next-iterator.rest.items;
  whole : l.next-iterator.rest.len ≡ length l.next-iterator.rest.items;
}
