use Rattle.std.proofs.Common.{not, eqb, subst, sym, ap, ◌∙◌}
use Rattle.task_bucket.specs.inner.Held.{AreRising, lists_in}
use Rattle.task_bucket.proofs.Views.{rising_filter, lists_without_job}
use Rattle.task_bucket.proofs.changes.drop_job.Goals as goal

pub returns-clause-kept : goal.returns-clause-kept
returns-clause-kept c = record {
  rising = subst AreRising (sym c.keep_other_jobs.ensures.items) (rising_filter (λ h. not (eqb h.task.job c.args.job)) c.args.held.now.items c.requires.rising);
  counted = c.keep_other_jobs.ensures.count;
}

pub returns-clause-lists : goal.returns-clause-lists
returns-clause-lists c = ap lists_in c.keep_other_jobs.ensures.items ∙ lists_without_job c.args.job c.args.held.now.items
