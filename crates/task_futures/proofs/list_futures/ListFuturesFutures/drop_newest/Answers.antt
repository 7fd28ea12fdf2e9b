use Rattle.std.proofs.Common.{sym, subst}
use Rattle.task_futures.specs.Laws.{AreFutures}
use Rattle.task_futures.proofs.Keeping.{all_kept}
use Rattle.task_futures.proofs.list_futures.ListFuturesFutures.drop_newest.Goals as goal

pub invariant_of-self : goal.invariant_of-self
invariant_of-self c = subst AreFutures (sym c.drop_newest.ensures) (all_kept c.self.inside.futures.items c.self.invariant).drop_newest
