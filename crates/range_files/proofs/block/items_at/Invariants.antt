use Rattle.std.proofs.Common.{◌+◌, ◌≤◌, length}
use Rattle.range_files.specs.Reading.{items_at}
use Rattle.range_files.proofs.Items.{ItemsSoFar}
use Rattle.range_files.proofs.block.items_at.Given as goal

abbrev pub invariant-loop-pairs : goal.invariant-loop-pairs
invariant-loop-pairs l = record { within : length l.rest ≤ length l.bytes; so_far : ItemsSoFar l.pairs.items l.end l.rest (items_at (length l.bytes + 1) l.end l.bytes) }

abbrev pub decreases-loop-pairs : goal.decreases-loop-pairs
decreases-loop-pairs l = length l.rest
