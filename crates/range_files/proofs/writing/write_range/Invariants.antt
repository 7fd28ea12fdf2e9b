use Rattle.std.proofs.Common.{drop, None, []}
use Rattle.range_files.specs.Grammar.{format}
use Rattle.block_frame.specs.Text.{string}
use Rattle.block_frame.specs.Frames.{no_frames, framed}
use Rattle.range_files.specs.Writing.{with_pairs}
use Rattle.range_files.proofs.Writer.{WrittenSoFar}
use Rattle.range_files.proofs.writing.write_range.Given as goal

abbrev pub invariant-loop-pair : goal.invariant-loop-pair
invariant-loop-pair g l = WrittenSoFar g.row.BLOCK l.frames l.repeat.items (drop l.pair-index l.pairs) l.fn.chunk.end (with_pairs g.row.BLOCK (framed g.row.BLOCK format no_frames (string l.fn.chunk.begin) []) None l.fn.chunk.pairs l.fn.chunk.end)
