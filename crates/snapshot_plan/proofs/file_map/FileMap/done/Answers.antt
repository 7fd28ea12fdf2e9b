use Rattle.std.proofs.Common.{sym, ◌∙◌}
use Rattle.snapshot_plan.proofs.Walking.{noted_stay}
use Rattle.snapshot_plan.proofs.file_map.FileMap.done.Goals as goal

pub invariant_of-self-2 : goal.invariant_of-self-2
invariant_of-self-2 c = noted_stay c.self.inside.ranges c.self.inside.noted.items c.insert_noted.new.noted.items c.args.self.now _ c.self.view_is c.self.invariant (sym c.is_backwards.ensures ∙ c.if-is_backwards.false) c.in_ok-check.ensures.ok c.in_ok-insert_noted.ensures.ok
