use Rattle.std.proofs.Common.{◌≡◌, ◌+◌, ◌≤◌, length}
use Rattle.range_files.specs.Reading.{read}
use Rattle.range_files.proofs.Files.{FileSoFar}
use Rattle.range_files.proofs.file.read.Given as goal

abbrev pub invariant-loop-front : goal.invariant-loop-front
invariant-loop-front l = record { few : l.index ≤ l.base; places : l.base + length l.rest ≡ length l.bytes; so_far : FileSoFar l.front l.size l.index l.base l.rest (read l.size l.bytes) }

abbrev pub decreases-loop-front : goal.decreases-loop-front
decreases-loop-front l = length l.rest
