use Rattle.std.proofs.Common.{sym, subst}
use Rattle.task_futures.specs.Laws.{AreFutures}
use Rattle.task_futures.proofs.Keeping.{all_kept}
use Rattle.task_futures.proofs.list_futures.ListFuturesFutures.join.Goals as goal

pub invariant_of-self-2 : goal.invariant_of-self-2
invariant_of-self-2 c = subst AreFutures (sym c.in_ok-join.ensures.ok) ((all_kept c.self.inside.futures.items c.self.invariant).join c.args.parts.now)
