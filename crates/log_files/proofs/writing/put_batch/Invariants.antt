use Rattle.std.proofs.Common.{◌+◌, ◌*◌, ◌≤◌, length}
use Rattle.log_files.specs.Grammar.{rows_of}
use Rattle.mutations.specs.Cutting.{pieces_of}
use Rattle.log_files.specs.Writing.{with_rows}
use Rattle.log_files.proofs.Writer.{PartsSoFar}
use Rattle.log_files.proofs.writing.put_batch.Given as goal

abbrev pub invariant-parts : goal.invariant-parts
invariant-parts g l = record {
  few : 64 * l.number + length l.rest ≤ length l.bytes;
  so_far : PartsSoFar g.row.BLOCK l.part l.frames l.version l.number l.rest (with_rows g.row.BLOCK l.fn.frames (rows_of l.version 0 (pieces_of l.part l.bytes)));
}

abbrev pub decreases-parts : goal.decreases-parts
decreases-parts g l = length l.rest
