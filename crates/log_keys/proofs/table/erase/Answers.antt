use Rattle.std.proofs.Common.{sym, ◌∙◌, subst, arith}
use Rattle.log_keys.specs.inner.Table.{AreRising}
use Rattle.log_keys.proofs.Places.{cut_here, uncut_here, older_out}
use Rattle.log_keys.proofs.table.erase.Goals as goal

pub place_of-first-requires : goal.place_of-first-requires
place_of-first-requires c = subst AreRising (sym c.deref.ensures.value) c.requires

pub place_of-last-requires : goal.place_of-last-requires
place_of-last-requires c = subst AreRising (sym c.deref-2.ensures.value) c.requires

pub returns-then-first-last : goal.returns-then-first-last
returns-then-first-last c =
    c.cut.ensures
    ∙ cut_here c.args.job 0 c.args.below c.args.rows.now.items c.deref.result.now c.deref-2.result.now c.place_of-first.result c.place_of-last.result
    (omega arith) c.requires c.deref.ensures.value c.deref-2.ensures.value c.place_of-first.ensures.place c.place_of-last.ensures.place
    ∙ older_out c.args.job c.args.below c.args.rows.now.items

pub returns-else-first-last : goal.returns-else-first-last
returns-else-first-last c =
    uncut_here c.args.job 0 c.args.below c.args.rows.now.items c.deref.result.now c.deref-2.result.now c.place_of-first.result c.place_of-last.result
    (omega arith) c.requires c.deref.ensures.value c.deref-2.ensures.value c.place_of-first.ensures.place c.place_of-last.ensures.place c.if-first-last.false
    ∙ older_out c.args.job c.args.below c.args.rows.now.items
