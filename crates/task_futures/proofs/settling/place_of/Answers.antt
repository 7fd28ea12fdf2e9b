use Rattle.std.proofs.Common.{rules}
use Rattle.std.proofs.lemmas.List.Sorted.{IsPartitionPoint-from_clause}
use Rattle.fb_bytes.proofs.Halving.{parted, halved}
use Rattle.task_futures.specs.inner.Changes.{is_lesser}
use Rattle.task_futures.proofs.Finding.{less_falls}
use Rattle.task_futures.proofs.settling.place_of.Goals as goal

pub returns-clause-place : goal.returns-clause-place
returns-clause-place c =
    halved (is_lesser c.args.number) c.args.futures.now c.partition_point.result c.partition_point.ensures.bound
    (IsPartitionPoint-from_clause (is_lesser c.args.number) c.args.futures.now c.partition_point.result c.partition_point.ensures.partitioned (parted (is_lesser c.args.number) c.args.futures.now (less_falls c.args.number c.args.futures.now c.requires)) (λ a r f' k. search rules))
