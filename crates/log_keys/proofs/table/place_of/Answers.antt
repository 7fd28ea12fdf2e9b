use Rattle.std.proofs.Common.{Bool, rules}
use Rattle.std.proofs.lemmas.List.Sorted.{IsPartitionPoint-from_clause}
use Rattle.log_keys.specs.Keys.{is_key_below}
use Rattle.log_keys.specs.inner.Keys.{first_at}
use Rattle.log_keys.specs.inner.Parts.{Row}
use Rattle.log_keys.proofs.Places.{parted, place_is}
use Rattle.log_keys.proofs.table.place_of.Goals as goal

pub returns-clause-place : goal.returns-clause-place
returns-clause-place c =
    let key = first_at c.args.job c.args.version in
    let test : Row → Bool = λ row. is_key_below row.key key in
    place_is key c.args.rows.now c.partition_point.result c.partition_point.ensures.bound
    (IsPartitionPoint-from_clause test c.args.rows.now c.partition_point.result c.partition_point.ensures.partitioned (parted key c.args.rows.now c.requires) (λ a r f' k. search rules))
