use Rattle.std.proofs.Common.{◌≡◌, drop}
use Rattle.block_frame.specs.Frames.{no_frames}
use Rattle.log_files.specs.Writing.{with_batches}
use Rattle.log_files.proofs.writing.write_log.Given as goal

abbrev pub invariant-loop-batch : goal.invariant-loop-batch
invariant-loop-batch g l = with_batches g.row.BLOCK l.frames (drop l.batch-index l.batches) ≡ with_batches g.row.BLOCK no_frames l.fn.chunk.batches
