use Rattle.std.proofs.Common.{rules}
use Rattle.std.proofs.lemmas.List.Sorted.{IsPartitionPoint-from_clause}
use Rattle.fb_bytes.specs.inner.Keys.{is_passed}
use Rattle.fb_bytes.proofs.Halving.{halved}
use Rattle.snapshot_plan.proofs.Placing.{ranges_parted}
use Rattle.snapshot_plan.proofs.least_keys.ranges_passed.Goals as goal

pub returns : goal.returns
returns c =
    halved (is_passed c.args.key.now) c.args.ranges.now c.partition_point.result c.partition_point.ensures.bound
    (IsPartitionPoint-from_clause (is_passed c.args.key.now) c.args.ranges.now c.partition_point.result c.partition_point.ensures.partitioned (ranges_parted c.args.key.now c.args.ranges.now c.requires) (λ a r f' k. search rules))
