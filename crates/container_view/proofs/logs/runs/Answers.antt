use Rattle.std.proofs.Common.{◌∙◌, ap, sym, subst}
use Rattle.container_view.specs.inner.Listed.{IsRisingBy, logs_of, runs_of, reach_in}
use Rattle.container_view.proofs.Bests.{if_ok, rise_up}
use Rattle.container_view.proofs.Runs.{runs_of_rise, runs_tell, reached_alike}
use Rattle.container_view.specs.Names.{logs_named}
use Rattle.container_view.proofs.logs.runs.Goals as goal

pub returns-clause-rising : goal.returns-clause-rising
returns-clause-rising c = if_ok c.joined.result (λ runs e. subst (IsRisingBy (λ run. run.begin) 0) (sym (e ∙ ap (λ xs. runs_of (logs_of xs)) c.deref.ensures.value)) (runs_of_rise (logs_of c.args.sorted.now.logs.items) (rise_up 0 c.args.sorted.now.logs.items c.requires.rising))) c.joined.ensures

pub returns-clause-same : goal.returns-clause-same
returns-clause-same c = if_ok c.joined.result (λ runs e from.
    ap (λ xs. reach_in xs from) (e ∙ ap (λ xs. runs_of (logs_of xs)) c.deref.ensures.value)
    ∙ runs_tell (logs_of c.args.sorted.now.logs.items) (rise_up 0 c.args.sorted.now.logs.items c.requires.rising) from
    ∙ reached_alike (logs_of c.args.sorted.now.logs.items) (logs_named c.args.sorted.now.names.now) c.requires.same from) c.joined.ensures
