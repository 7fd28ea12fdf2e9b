use Rattle.std.proofs.Common.{rules}
use Rattle.std.proofs.lemmas.List.Sorted.{IsPartitionPoint-from_clause}
use Rattle.fb_bytes.proofs.Halving.{parted, halved}
use Rattle.version_map.proofs.Halves.{is_past, past_falls}
use Rattle.version_map.proofs.places.passed.Goals as goal

pub returns : goal.returns
returns c = record {
  count =
      halved (is_past c.args.key.now) c.args.pieces.now c.partition_point.result c.partition_point.ensures.bound
      (IsPartitionPoint-from_clause (is_past c.args.key.now) c.args.pieces.now c.partition_point.result c.partition_point.ensures.partitioned (parted (is_past c.args.key.now) c.args.pieces.now (past_falls c.args.key.now c.args.pieces.now c.requires)) (λ a r q k. search rules));
  within = c.partition_point.ensures.bound;
}
