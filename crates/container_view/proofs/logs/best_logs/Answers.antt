use Rattle.std.proofs.Common.{◌∙◌, ap, None}
use Rattle.container_view.specs.inner.Listed.{logs_of, bests}
use Rattle.container_view.proofs.Bests.{if_ok, list_rises, list_held}
use Rattle.container_view.proofs.logs.best_logs.Goals as goal

pub returns-clause-rising : goal.returns-clause-rising
returns-clause-rising c = if_ok c.with_bests.result (λ list e. list_rises c.args.sorted.now.logs.items list.items c.requires.rising (e ∙ ap (λ xs. bests None (logs_of xs)) c.deref.ensures.value)) c.with_bests.ensures

pub returns-clause-same : goal.returns-clause-same
returns-clause-same c = if_ok c.with_bests.result (λ list e version. list_held c.args.sorted.now.logs.items list.items c.requires.rising (e ∙ ap (λ xs. bests None (logs_of xs)) c.deref.ensures.value) version ∙ c.requires.same version) c.with_bests.ensures
