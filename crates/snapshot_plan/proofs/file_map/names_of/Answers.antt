use Rattle.std.proofs.Common.{◌∙◌}
use Rattle.snapshot_plan.proofs.Sorting.{names_sorted}
use Rattle.snapshot_plan.proofs.file_map.names_of.Goals as goal

pub returns : goal.returns
returns c = c.from_vec.ensures ∙ names_sorted c.args.noted.now c.in_ok-names.names.items c.sort.new.self.items c.in_ok-names.ensures c.sort.ensures.permutation c.in_ok-sort.ensures.sorted
