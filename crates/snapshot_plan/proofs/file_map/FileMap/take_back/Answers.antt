use Rattle.std.proofs.Common.{sym, ◌∙◌}
use Rattle.snapshot_plan.proofs.Taking.{taken, not_taken, taken_pieces, map_taken}
use Rattle.snapshot_plan.proofs.file_map.FileMap.take_back.Goals as goal

pub invariant_of-self : goal.invariant_of-self
invariant_of-self c =
    let noted = c.self.inside.noted.items in
    taken_pieces noted c.remove.new.self.items c.args.begin.now c.self.invariant
    (taken noted c.deref.result.now c.deref-2.result.now c.remove.new.self.items c.args.begin.now c.place_of-place.result c.deref.ensures.value c.deref-2.ensures.value c.place_of-place.ensures (sym c.begins_at.ensures ∙ c.if-begins_at.true) c.remove.ensures.items)

pub returns-then-begins_at : goal.returns-then-begins_at
returns-then-begins_at c =
    let noted = c.self.inside.noted.items in
    map_taken c.self.inside.ranges noted c.remove.new.self.items c.args.begin.now c.args.self.now c.self.view_is
    (taken noted c.deref.result.now c.deref-2.result.now c.remove.new.self.items c.args.begin.now c.place_of-place.result c.deref.ensures.value c.deref-2.ensures.value c.place_of-place.ensures (sym c.begins_at.ensures ∙ c.if-begins_at.true) c.remove.ensures.items)

pub returns-else-begins_at : goal.returns-else-begins_at
returns-else-begins_at c =
    let noted = c.self.inside.noted.items in
    sym c.self.view_is
    ∙ map_taken c.self.inside.ranges noted noted c.args.begin.now c.args.self.now c.self.view_is
    (not_taken noted c.deref.result.now c.deref-2.result.now c.args.begin.now c.place_of-place.result c.self.invariant c.deref.ensures.value c.deref-2.ensures.value c.place_of-place.ensures (sym c.begins_at.ensures ∙ c.if-begins_at.false))
