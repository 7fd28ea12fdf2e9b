use Rattle.std.proofs.Common.{rules}
use Rattle.std.proofs.lemmas.List.Sorted.{IsPartitionPoint-from_clause}
use Rattle.fb_bytes.proofs.Halving.{parted, halved}
use Rattle.version_map.proofs.Halves.{is_begun, begun_falls}
use Rattle.version_map.proofs.places.begun.Goals as goal

pub returns : goal.returns
returns c = record {
  count =
      halved (is_begun c.args.key.now) c.args.pieces.now c.partition_point.result c.partition_point.ensures.bound
      (IsPartitionPoint-from_clause (is_begun c.args.key.now) c.args.pieces.now c.partition_point.result c.partition_point.ensures.partitioned (parted (is_begun c.args.key.now) c.args.pieces.now (begun_falls c.args.key.now c.args.pieces.now c.requires)) (λ a r q k. search rules));
  within = c.partition_point.ensures.bound;
}
