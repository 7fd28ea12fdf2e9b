use Rattle.std.proofs.Common.{◌≡◌, ◌+◌, ◌<◌, ◌≤◌, length}
use Rattle.log_files.specs.Reading.{nothing_yet, blocks_from}
use Rattle.log_files.specs.inner.Seen.{so_far}
use Rattle.log_files.proofs.Loops.{BlocksSoFar}
use Rattle.log_files.proofs.reading.blocks.Given as goal

abbrev pub invariant-pieces : goal.invariant-pieces
invariant-pieces l = record {
  near : l.base + length l.rest ≤ length l.bytes + l.size;
  places : 0 < length l.rest → l.base + length l.rest ≡ length l.bytes;
  so_far : BlocksSoFar l.size l.end l.base (so_far l.batched) l.rest (blocks_from (length l.bytes) l.size l.end 0 (nothing_yet l.begin) l.bytes);
}

abbrev pub decreases-pieces : goal.decreases-pieces
decreases-pieces l = length l.rest
