use Rattle.std.proofs.Common.{◌+◌, sym, ◌∙◌, subst, arith}
use Rattle.log_keys.specs.inner.Table.{AreRising}
use Rattle.log_keys.proofs.Places.{cut_here, uncut_here}
use Rattle.log_keys.proofs.table.retract_of.Goals as goal

pub place_of-first-requires : goal.place_of-first-requires
place_of-first-requires c = subst AreRising (sym c.deref.ensures.value) c.requires

pub place_behind-last-requires : goal.place_behind-last-requires
place_behind-last-requires c = subst AreRising (sym c.deref-2.ensures.value) c.requires

pub returns-then-first-last : goal.returns-then-first-last
returns-then-first-last c =
    c.cut.ensures
    ∙ cut_here c.args.job c.args.version (c.args.version + 1) c.args.rows.now.items c.deref.result.now c.deref-2.result.now c.place_of-first.result c.place_behind-last.result
    (omega arith) c.requires c.deref.ensures.value c.deref-2.ensures.value c.place_of-first.ensures.place c.place_behind-last.ensures.place

pub returns-else-first-last : goal.returns-else-first-last
returns-else-first-last c =
    uncut_here c.args.job c.args.version (c.args.version + 1) c.args.rows.now.items c.deref.result.now c.deref-2.result.now c.place_of-first.result c.place_behind-last.result
    (omega arith) c.requires c.deref.ensures.value c.deref-2.ensures.value c.place_of-first.ensures.place c.place_behind-last.ensures.place c.if-first-last.false
