use Rattle.std.proofs.Common.{◌≡◌, ◌++◌, ℕ, List, drop}
use Rattle.mutations.specs.declared.Entry.{Entry}
use Rattle.mutations.specs.Histories.{batches_of}
use Rattle.versioned_kv.specs.Applied.{Holds}
use Rattle.block_frame.specs.Profiles.{limit_of}
use Rattle.database.specs.Reads.{reads_at}
use Rattle.database.proofs.reading.reads_counted.Given as goal

abbrev pub invariant-loop-op : goal.invariant-loop-op
invariant-loop-op g l = (block : ℕ) (history : List Entry) → l.store.limit ≡ limit_of block → Holds l.store (batches_of history) → l.reads ++ reads_at block history l.version (drop l.op-index l.ops) ≡ reads_at block history l.version l.ops
