use Rattle.std.proofs.Common.{nat_le, rules}
use Rattle.std.proofs.lemmas.List.Sorted.{IsPartitionPoint-from_clause}
use Rattle.fb_bytes.proofs.Halving.{halved, parted}
use Rattle.mutations.specs.declared.Entry.{Entry}
use Rattle.database.proofs.Since.{seen_falls}
use Rattle.database.proofs.conflicts.seen_at.Goals as goal

pub returns-clause-count : goal.returns-clause-count
returns-clause-count c =
    halved (λ (entry : Entry). nat_le entry.version c.args.read) c.args.history.now c.partition_point.result c.partition_point.ensures.bound
    (IsPartitionPoint-from_clause (λ (entry : Entry). nat_le entry.version c.args.read) c.args.history.now c.partition_point.result c.partition_point.ensures.partitioned (parted (λ (entry : Entry). nat_le entry.version c.args.read) c.args.history.now (seen_falls c.args.read c.args.history.now c.requires)) (λ a r f' k. search rules))
