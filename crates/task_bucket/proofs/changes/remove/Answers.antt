use Rattle.std.proofs.Common.{not, eqb, arith, subst, sym, ap, ◌∙◌}
use Rattle.task_bucket.specs.inner.Held.{AreRising, lists_in}
use Rattle.task_bucket.proofs.Views.{rising_filter, lists_without_uid}
use Rattle.task_bucket.proofs.changes.remove.Goals as goal

pub returns-clause-kept : goal.returns-clause-kept
returns-clause-kept c = record {
  rising = subst AreRising (sym c.keep_other_uids.ensures.items) (rising_filter (λ h. not (eqb h.uid c.args.uid)) c.args.held.now.items c.requires.rising);
  counted = omega (arith, c.requires.counted, c.keep_other_uids.ensures.count);
}

pub returns-clause-lists : goal.returns-clause-lists
returns-clause-lists c = ap lists_in c.keep_other_uids.ensures.items ∙ lists_without_uid c.args.uid c.args.held.now.items
