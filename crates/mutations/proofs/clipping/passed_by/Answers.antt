use Rattle.std.proofs.Common.{rules}
use Rattle.std.proofs.lemmas.List.Sorted.{IsPartitionPoint-from_clause}
use Rattle.fb_bytes.specs.inner.Keys.{is_passed}
use Rattle.mutations.proofs.Meets.{passed_parted, at_point}
use Rattle.mutations.proofs.clipping.passed_by.Goals as goal

pub returns-clause-count : goal.returns-clause-count
returns-clause-count c =
    at_point (is_passed c.args.key.now) c.args.ranges.now c.partition_point.result c.partition_point.ensures.bound
    (IsPartitionPoint-from_clause (is_passed c.args.key.now) c.args.ranges.now c.partition_point.result c.partition_point.ensures.partitioned (passed_parted c.args.key.now c.args.ranges.now c.requires) (λ a r f' k. search rules))
