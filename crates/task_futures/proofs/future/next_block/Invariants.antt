use Rattle.std.proofs.Common.{◌≡◌, max, drop}
use Rattle.task_futures.specs.Futures.{greatest_block}
use Rattle.task_futures.proofs.future.next_block.Given as goal

abbrev pub invariant-loop-block : goal.invariant-loop-block
invariant-loop-block l = max l.greatest (greatest_block (drop l.block-index l.blocks)) ≡ greatest_block l.blocks
