use Rattle.std.proofs.Common.{◌≡◌, ◌++◌, drop}
use Rattle.task_futures.specs.Futures.{join_blocks}
use Rattle.task_futures.proofs.list_futures.blocks_for.Given as goal

abbrev pub invariant-loop-part : goal.invariant-loop-part
invariant-loop-part l = l.blocks.items ++ join_blocks l.block (drop l.part-index l.parts) l.futures ≡ join_blocks 1 l.parts l.futures
