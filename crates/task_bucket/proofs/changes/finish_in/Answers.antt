use Rattle.std.proofs.Common.{not, subst, sym, ap, ◌∙◌}
use Rattle.task_bucket.specs.Lists.{Lists}
use Rattle.task_bucket.specs.inner.Held.{AreRising, held_is, lists_in}
use Rattle.task_bucket.proofs.Views.{rising_filter, lists_finished, same_count}
use Rattle.task_bucket.proofs.changes.finish_in.Goals as goal

pub returns-then-found-clause-rising : goal.returns-then-found-clause-rising
returns-then-found-clause-rising c = subst AreRising (sym c.keep_other_leases.ensures) (rising_filter (λ h. not (held_is c.args.until c.args.uid h)) c.args.held.now.items c.requires)

pub returns-then-found-clause-lists : goal.returns-then-found-clause-lists
returns-then-found-clause-lists c = ap lists_in c.keep_other_leases.ensures ∙ lists_finished c.args.until c.args.uid c.args.held.now.items

pub returns-else-found-clause-rising : goal.returns-else-found-clause-rising
returns-else-found-clause-rising c = subst AreRising (sym c.keep_other_leases.ensures) (rising_filter (λ h. not (held_is c.args.until c.args.uid h)) c.args.held.now.items c.requires)

pub returns-else-found-clause-lists : goal.returns-else-found-clause-lists
returns-else-found-clause-lists c = ap lists_in c.keep_other_leases.ensures ∙ lists_finished c.args.until c.args.uid c.args.held.now.items

pub returns-then-found-clause-count : goal.returns-then-found-clause-count
returns-then-found-clause-count c =
    same_count c.args.held.now.items c.keep_other_leases.new.held.items (ap (λ (l : Lists). l.available) (ap lists_in c.keep_other_leases.ensures ∙ lists_finished c.args.until c.args.uid c.args.held.now.items))

pub returns-else-found-clause-count : goal.returns-else-found-clause-count
returns-else-found-clause-count c =
    same_count c.args.held.now.items c.keep_other_leases.new.held.items (ap (λ (l : Lists). l.available) (ap lists_in c.keep_other_leases.ensures ∙ lists_finished c.args.until c.args.uid c.args.held.now.items))
