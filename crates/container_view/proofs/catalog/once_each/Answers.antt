use Rattle.std.proofs.Common.{◌∙◌, nat_eq}
use Rattle.std.specs.Cmp.Lexicographic.{pointwise}
use Rattle.std.proofs.lemmas.List.Filters.{dedup_is}
use Rattle.container_view.proofs.Parts.{once_rising, once_named}
use Rattle.container_view.proofs.catalog.once_each.Goals as goal

pub returns-clause-rising : goal.returns-clause-rising
returns-clause-rising c = once_rising c.sort.new.self.items c.from_vec.result c.in_ok-sort.ensures.sorted (c.from_vec.ensures ∙ dedup_is (pointwise nat_eq) c.sort.new.self.items c.dedup.new.self.items c.dedup.ensures.filtered)

pub returns-clause-same : goal.returns-clause-same
returns-clause-same c = once_named c.args.names.items c.sort.new.self.items c.from_vec.result c.sort.ensures.permutation (c.from_vec.ensures ∙ dedup_is (pointwise nat_eq) c.sort.new.self.items c.dedup.new.self.items c.dedup.ensures.filtered)
