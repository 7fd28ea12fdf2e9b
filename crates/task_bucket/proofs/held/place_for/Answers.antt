use Rattle.std.proofs.Common.{rules}
use Rattle.std.proofs.lemmas.List.Sorted.{IsPartitionPoint-from_clause}
use Rattle.fb_bytes.proofs.Halving.{parted, halved}
use Rattle.task_bucket.specs.inner.Held.{is_upto}
use Rattle.task_bucket.proofs.Finding.{upto_falls}
use Rattle.task_bucket.proofs.held.place_for.Goals as goal

pub returns-clause-place : goal.returns-clause-place
returns-clause-place c =
    halved (is_upto c.args.uid) c.args.held.now c.partition_point.result c.partition_point.ensures.bound
    (IsPartitionPoint-from_clause (is_upto c.args.uid) c.args.held.now c.partition_point.result c.partition_point.ensures.partitioned (parted (is_upto c.args.uid) c.args.held.now (upto_falls c.args.uid c.args.held.now c.requires)) (λ a r f' k. search rules))
