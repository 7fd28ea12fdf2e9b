use Rattle.std.proofs.Common.{rules}
use Rattle.std.proofs.lemmas.List.Sorted.{IsPartitionPoint-from_clause}
use Rattle.fb_bytes.specs.Bytes.{is_below}
use Rattle.fb_bytes.proofs.Halving.{halved}
use Rattle.snapshot_plan.proofs.Placing.{begins_parted}
use Rattle.snapshot_plan.proofs.file_map.place_of.Goals as goal

pub returns : goal.returns
returns c =
    halved (λ n. is_below n.piece.begin c.args.key.now) c.args.noted.now c.partition_point.result c.partition_point.ensures.bound
    (IsPartitionPoint-from_clause (λ n. is_below n.piece.begin c.args.key.now) c.args.noted.now c.partition_point.result c.partition_point.ensures.partitioned (begins_parted c.args.key.now c.args.noted.now c.requires) (λ a r f' k. search rules))
