use Rattle.std.proofs.Common.{arith, ap, ◌∙◌}
use Rattle.task_bucket.specs.inner.Held.{place_for}
use Rattle.task_bucket.proofs.Claiming.{puts}
use Rattle.task_bucket.proofs.changes.put.Goals as goal

pub insert-requires : goal.insert-requires
insert-requires c = omega (arith, c.place_for-at.ensures.within, c.deref.ensures.len)

pub returns-clause-kept : goal.returns-clause-kept
returns-clause-kept c =
    let is = puts c.args.one c.args.held.now.items c.insert.new.self.items c.place_for-at.result c.requires.kept.rising c.requires.fresh (c.place_for-at.ensures.place ∙ ap (place_for c.args.one.uid) c.deref.ensures.value) c.in_ok-insert.ensures.items in
    record { rising = is.rising; counted = omega (arith, is.count, c.requires.kept.counted, c.free_count-more.ensures) }

pub returns-clause-ok : goal.returns-clause-ok
returns-clause-ok c =
    (puts c.args.one c.args.held.now.items c.insert.new.self.items c.place_for-at.result c.requires.kept.rising c.requires.fresh (c.place_for-at.ensures.place ∙ ap (place_for c.args.one.uid) c.deref.ensures.value) c.in_ok-insert.ensures.items).lists
