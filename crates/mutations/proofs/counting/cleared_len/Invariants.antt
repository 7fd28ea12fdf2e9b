use Rattle.std.proofs.Common.{◌≡◌, take}
use Rattle.mutations.specs.Clipping.{clear_cut}
use Rattle.mutations.specs.Spelling.{counted_bytes}
use Rattle.mutations.proofs.counting.cleared_len.Given as goal

abbrev pub invariant-loop-range : goal.invariant-loop-range
invariant-loop-range l = l.total ≡ counted_bytes (clear_cut l.begin l.end (take l.range-index l.range-items))
