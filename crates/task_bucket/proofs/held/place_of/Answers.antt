use Rattle.std.proofs.Common.{rules}
use Rattle.std.proofs.lemmas.List.Sorted.{IsPartitionPoint-from_clause}
use Rattle.fb_bytes.proofs.Halving.{parted, halved}
use Rattle.task_bucket.specs.inner.Held.{is_lesser}
use Rattle.task_bucket.proofs.Finding.{less_falls}
use Rattle.task_bucket.proofs.held.place_of.Goals as goal

pub returns : goal.returns
returns c =
    halved (is_lesser c.args.uid) c.args.held.now c.partition_point.result c.partition_point.ensures.bound
    (IsPartitionPoint-from_clause (is_lesser c.args.uid) c.args.held.now c.partition_point.result c.partition_point.ensures.partitioned (parted (is_lesser c.args.uid) c.args.held.now (less_falls c.args.uid c.args.held.now c.requires)) (λ a r f' k. search rules))
