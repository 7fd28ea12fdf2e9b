use Rattle.std.proofs.Common.{rules}
use Rattle.std.proofs.lemmas.List.Sorted.{IsPartitionPoint-from_clause}
use Rattle.fb_bytes.specs.inner.Keys.{is_passed}
use Rattle.fb_bytes.proofs.Halving.{halved}
use Rattle.snapshot_plan.proofs.Placing.{ends_parted}
use Rattle.snapshot_plan.proofs.least_keys.pieces_passed.Goals as goal

pub returns : goal.returns
returns c =
    halved (λ n. is_passed c.args.key.now n.piece) c.args.noted.now c.partition_point.result c.partition_point.ensures.bound
    (IsPartitionPoint-from_clause (λ n. is_passed c.args.key.now n.piece) c.args.noted.now c.partition_point.result c.partition_point.ensures.partitioned (ends_parted c.args.key.now c.args.noted.now c.requires) (λ a r f' k. search rules))
