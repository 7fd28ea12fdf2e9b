use Rattle.std.proofs.Common.{[], ◌∷◌, ◌++◌, ap, sym, subst, ◌∙◌}
use Rattle.task_futures.specs.Futures.{fresh_with, next_number}
use Rattle.task_futures.specs.Laws.{AreFutures}
use Rattle.task_futures.proofs.Keeping.{all_kept}
use Rattle.task_futures.proofs.list_futures.ListFuturesFutures.fresh.Goals as goal

pub invariant_of-self-2 : goal.invariant_of-self-2
invariant_of-self-2 c =
    let items = c.self.inside.futures.items in
    let future =
    c.new-future.ensures ∙ ap (fresh_with c.in_ok-number.number) c.new.ensures.items
    ∙ ap (λ n. fresh_with n []) (c.in_ok-number.ensures.0 ∙ ap next_number c.deref.ensures.value) in
    subst AreFutures (sym (c.in_ok-push.ensures.items ∙ ap (λ f. items ++ f ∷ []) future)) (all_kept items c.self.invariant).fresh
