use Rattle.std.proofs.Common.{rules}
use Rattle.std.proofs.lemmas.List.Sorted.{IsPartitionPoint-from_clause}
use Rattle.mutations.specs.inner.Clipping.{begins_before}
use Rattle.mutations.proofs.Meets.{begins_parted, at_point}
use Rattle.mutations.proofs.clipping.begun_before.Goals as goal

pub returns-clause-count : goal.returns-clause-count
returns-clause-count c =
    at_point (begins_before c.args.key.now) c.args.ranges.now c.partition_point.result c.partition_point.ensures.bound
    (IsPartitionPoint-from_clause (begins_before c.args.key.now) c.args.ranges.now c.partition_point.result c.partition_point.ensures.partitioned (begins_parted c.args.key.now c.args.ranges.now c.requires) (λ a r f' k. search rules))
