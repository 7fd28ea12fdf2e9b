use Rattle.std.proofs.Common.{◌≡◌, ◌++◌, drop}
use Rattle.mutations.specs.Clipping.{clear_cut}
use Rattle.mutations.proofs.clipping.clip_clear.Given as goal

abbrev pub invariant-loop-range : goal.invariant-loop-range
invariant-loop-range l = l.muts ++ clear_cut l.begin l.end (drop l.range-index l.range-items) ≡ clear_cut l.begin l.end l.ranges
