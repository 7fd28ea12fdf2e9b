use Rattle.std.proofs.Common.{rules}
use Rattle.std.proofs.lemmas.List.Sorted.{IsPartitionPoint-from_clause}
use Rattle.fb_bytes.specs.inner.Keys.{is_passed}
use Rattle.fb_bytes.proofs.Halving.{halved, ends_parted}
use Rattle.fb_bytes.proofs.ranges.ranges_before.Goals as goal

pub returns : goal.returns
returns c =
    halved (is_passed c.args.key.now) c.args.ranges.now c.partition_point.result c.partition_point.ensures.bound
    (IsPartitionPoint-from_clause (is_passed c.args.key.now) c.args.ranges.now c.partition_point.result c.partition_point.ensures.partitioned (ends_parted c.args.key.now c.args.ranges.now c.requires) (λ a r f' k. search rules))
