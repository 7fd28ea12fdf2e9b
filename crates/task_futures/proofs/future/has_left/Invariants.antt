use Rattle.std.proofs.Common.{◌≡◌, drop}
use Rattle.task_futures.specs.Futures.{is_some_block, left}
use Rattle.task_futures.proofs.future.has_left.Given as goal

abbrev pub invariant-loop-block : goal.invariant-loop-block
invariant-loop-block l = is_some_block (left l.pending l.number (drop l.block-index l.blocks)) ≡ is_some_block (left l.pending l.number l.blocks)
